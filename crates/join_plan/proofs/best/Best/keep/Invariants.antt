-- The steps so far are kept.
use Rattle.std.proofs.Common.{◌≡◌, Some, take}
use Rattle.join_plan.proofs.best.Best.keep.Given as goal

abbrev pub invariant-loop-step : goal.invariant-loop-step
invariant-loop-step l = (l.step-items ≡ l.steps.items) × (l.self.steps.items ≡ take l.step-index l.step-items) × (l.self.steps.capacity ≡ 4) × (l.self.cost ≡ Some l.cost)
