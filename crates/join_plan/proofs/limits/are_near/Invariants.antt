-- Those so far are.
use Rattle.std.proofs.Common.{take}
use Rattle.std.specs.List.{All}
use Rattle.job_model.specs.Runnable.{IsNear}
use Rattle.join_plan.proofs.limits.are_near.Given as goal

abbrev pub invariant-loop-span : goal.invariant-loop-span
invariant-loop-span l = All IsNear (take l.span-index l.spans)
