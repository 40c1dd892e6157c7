use Rattle.std.proofs.Common.{ℕ, get_or, refl, sym, subst, arith}
use Rattle.std.proofs.lemmas.List.{get_or_read}
use Rattle.bern_base.specs.Matrix.{IsMatrix}
use Rattle.rank_node.proofs.ListLemmas.{below_next}
use Rattle.rank_product.proofs.matrices.are_matrices.Goals as goal

pub returns-then-not-is_matrix : goal.returns-then-not-is_matrix
returns-then-not-is_matrix c = (
  λ no. absurd cc,
  λ all. absurd (let is = c.is_matrix.ensures.1 (subst IsMatrix (sym c.matrix-item.is) (all c.loop-matrix.matrix-index c.matrix-item.result c.loop-matrix-test.true)) in cc),
)

pub loop-matrix-preserved : goal.loop-matrix-preserved
loop-matrix-preserved c = λ k d below.
    let ms = c.args.matrices.now in
    let at : ℕ = c.loop-matrix.matrix-index in
    below_next (λ j. IsMatrix (get_or ms j d)) at (λ j under. c.loop-matrix.invariant j d under)
    (subst IsMatrix (get_or_read ms at c.matrix-item.result c.loop-matrix-test.true c.matrix-item.is d) (c.is_matrix.ensures.0 c.if-not-is_matrix.false)) k below

pub returns : goal.returns
returns c = (λ t k d within. c.loop-matrix.invariant k d (omega (arith, within, c.loop-matrix-test.false, c.loop-matrix.auto.matrix-index-end)), λ all. refl)
