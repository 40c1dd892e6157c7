-- The nests so far are that of the product.
use Rattle.std.proofs.Common.{ℕ, ◌<◌, get_or}
use Rattle.bern_base.specs.declared.job.Nest.{Nest}
use Rattle.rank_product.specs.Shapes.{IsNestOf}
use Rattle.rank_product.proofs.shape.are_nests.Given as goal

abbrev pub invariant-loop-nest : goal.invariant-loop-nest
invariant-loop-nest l = (k : ℕ) (d : Nest) → k < l.nest-index → IsNestOf l.product (get_or l.nests k d)
