use Rattle.std.proofs.Common.{map, subst, ap, ◌∙◌, sym}
use Rattle.std.specs.List.{All}
use Rattle.bern_base.specs.Matrix.{IsMatrix}
use Rattle.rank_product.specs.Runs.{declared_sizes, sizes_of}
use Rattle.rank_product.proofs.matrices.are_of_job.Goals as goal

pub returns-then-have_sizes : goal.returns-then-have_sizes
returns-then-have_sizes c = (
  λ t. record {
    sizes = ap (map sizes_of) (sym c.as_slice.ensures) ∙ c.have_sizes.ensures.0 c.if-have_sizes.true ∙ ap (map declared_sizes) c.as_slice-2.ensures;
    matrices_are = subst (All IsMatrix) c.as_slice-then-have_sizes.ensures (c.are_matrices.ensures.0 t);
  },
  λ are. c.are_matrices.ensures.1 (subst (All IsMatrix) (sym c.as_slice-then-have_sizes.ensures) are.matrices_are),
)
