-- The terms so far have their texts.
use Rattle.std.proofs.Common.{◌≡◌, ◌++◌, slice_get}
use Rattle.std.specs.List.{flat_map, range_with_len}
use Rattle.join_plan.specs.PlanText.{planned_text}
use Rattle.join_plan.proofs.text.append_terms.Given as goal

abbrev pub invariant-loop-place : goal.invariant-loop-place
invariant-loop-place l = l.out ≡ l.fn.out ++ flat_map (λ place. planned_text l.job l.number l.nest place (slice_get l.terms place)) (range_with_len 0 l.place)
