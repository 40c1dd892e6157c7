-- The steps so far have their lines, and what they bind is bound.
use Rattle.std.proofs.Common.{◌≡◌, ◌++◌, take}
use Rattle.join_plan.specs.PlanText.{steps_text, unused}
use Rattle.join_plan.specs.Progress.{Marks}
use Rattle.join_plan.proofs.TextLemmas.{bound_by}
use Rattle.join_plan.proofs.text.append_steps.Given as goal

abbrev pub invariant-loop-step : goal.invariant-loop-step
invariant-loop-step l =
    Marks (bound_by l.term (unused l.nest) (take l.step-index l.steps)) l.bound × (l.out ≡ l.fn.out ++ steps_text l.job l.nest l.term (unused l.nest) (take l.step-index l.steps))
