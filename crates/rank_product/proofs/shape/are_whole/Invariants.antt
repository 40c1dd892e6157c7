-- The variables so far go over the whole extent.
use Rattle.std.proofs.Common.{ℕ, ◌<◌, get_or}
use Rattle.bern_base.specs.declared.job.Span.{Span}
use Rattle.rank_product.specs.Shapes.{IsWhole}
use Rattle.rank_product.proofs.shape.are_whole.Given as goal

abbrev pub invariant-loop-span : goal.invariant-loop-span
invariant-loop-span l = (k : ℕ) (d : Span) → k < l.span-index → IsWhole l.size (get_or l.vars k d)
