-- The arrays so far are over the extent.
use Rattle.std.proofs.Common.{ℕ, ◌<◌, get_or}
use Rattle.bern_base.specs.declared.job.ArrayDecl.{ArrayDecl}
use Rattle.rank_product.specs.Shapes.{IsOver}
use Rattle.rank_product.proofs.shape.are_over.Given as goal

abbrev pub invariant-loop-array : goal.invariant-loop-array
invariant-loop-array l = (k : ℕ) (d : ArrayDecl) → k < l.array-index → IsOver l.product (get_or l.arrays k d)
