-- The matrices so far are matrices.
use Rattle.std.proofs.Common.{ℕ, ◌<◌, get_or}
use Rattle.bern_base.specs.declared.matrix.Matrix.{Matrix}
use Rattle.bern_base.specs.Matrix.{IsMatrix}
use Rattle.rank_product.proofs.matrices.are_matrices.Given as goal

abbrev pub invariant-loop-matrix : goal.invariant-loop-matrix
invariant-loop-matrix l = (k : ℕ) (d : Matrix) → k < l.matrix-index → IsMatrix (get_or l.matrices k d)
