use Rattle.std.proofs.Common.{sym, subst}
use Rattle.std.specs.List.{All}
use Rattle.bern_base.specs.Matrix.{IsMatrix}
use Rattle.rank_product.proofs.parts.parts_of.Goals as goal

pub split-requires-clause-matrix : goal.split-requires-clause-matrix
split-requires-clause-matrix c =
    subst IsMatrix (sym c.matrix-item.is) (subst (All IsMatrix) (sym c.as_slice-matrix-items.ensures) c.requires.matrices c.loop-matrix.matrix-index c.matrix-item.result c.loop-matrix-test.true)
