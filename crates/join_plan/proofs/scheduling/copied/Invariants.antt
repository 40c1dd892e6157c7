-- The steps so far are copied.
use Rattle.std.proofs.Common.{◌≡◌, take}
use Rattle.join_plan.proofs.scheduling.copied.Given as goal

abbrev pub invariant-loop-step : goal.invariant-loop-step
invariant-loop-step l = l.items ≡ take l.step-index l.steps
