use Rattle.std.proofs.Common.{refl, ap, ◌∙◌, sym, arith}
use Rattle.bern_base.specs.declared.job.ArrayDecl.{ArrayDecl}
use Rattle.bern_base.specs.declared.matrix.Matrix.{Matrix}
use Rattle.rank_product.specs.Runs.{declared_sizes, sizes_of}
use Rattle.rank_product.proofs.ListLemmas.{maps_same, maps_at}
use Rattle.rank_product.proofs.matrices.have_sizes.Goals as goal

pub returns-then-not-has_sizes : goal.returns-then-not-has_sizes
returns-then-not-has_sizes c =
    let m : Matrix = c.index-matrices-at.result in
    let array : ArrayDecl = c.index-arrays-at.result in (
      λ no. absurd cc,
      λ same. absurd (let is = c.has_sizes.ensures.1
          (ap sizes_of c.index-matrices-at.is ∙ maps_at sizes_of declared_sizes c.args.matrices.now c.args.arrays.now same c.loop-at.at m array c.loop-at-test.true ∙ sym (ap declared_sizes c.index-arrays-at.is)) in
          cc),
    )

pub returns : goal.returns
returns c = (
  λ t. maps_same sizes_of declared_sizes c.args.matrices.now c.args.arrays.now (omega (arith, c.if-matrices-arrays.false))
      (λ k d e within. c.loop-at.invariant k d e (omega (arith, within, c.loop-at-test.false, c.loop-at.auto.at-end))),
  λ same. refl,
)
