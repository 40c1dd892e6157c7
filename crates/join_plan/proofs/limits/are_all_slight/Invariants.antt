-- Those so far are.
use Rattle.std.proofs.Common.{take}
use Rattle.std.specs.List.{All}
use Rattle.join_plan.specs.Costs.{stats_at}
use Rattle.join_plan.specs.Tasks.{AreSlight}
use Rattle.join_plan.proofs.limits.are_all_slight.Given as goal

abbrev pub invariant-loop-reference : goal.invariant-loop-reference
invariant-loop-reference l = All (λ ref. AreSlight (stats_at l.stats ref.array)) (take l.reference-index l.references)
