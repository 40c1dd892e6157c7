-- The matrices so far have the sizes of their arrays.
use Rattle.std.proofs.Common.{◌≡◌, ℕ, ◌<◌, get_or}
use Rattle.bern_base.specs.declared.job.ArrayDecl.{ArrayDecl}
use Rattle.bern_base.specs.declared.matrix.Matrix.{Matrix}
use Rattle.rank_product.specs.Runs.{declared_sizes, sizes_of}
use Rattle.rank_product.proofs.matrices.have_sizes.Given as goal

abbrev pub invariant-loop-at : goal.invariant-loop-at
invariant-loop-at l = (k : ℕ) (d : Matrix) (e : ArrayDecl) → k < l.at → sizes_of (get_or l.matrices k d) ≡ declared_sizes (get_or l.arrays k e)
