-- Those so far are.
use Rattle.std.proofs.Common.{take}
use Rattle.std.specs.List.{All}
use Rattle.join_plan.specs.Tasks.{IsModest}
use Rattle.join_plan.proofs.limits.are_modest.Given as goal

abbrev pub invariant-loop-stat : goal.invariant-loop-stat
invariant-loop-stat l = All IsModest (take l.stat-index l.stats)
