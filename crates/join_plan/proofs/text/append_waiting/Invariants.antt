-- The variables before this one are appended where the subscript waits for them.
use Rattle.std.proofs.Common.{◌-◌, ◌≡◌, ◌++◌, ◌≤◌, ◌&&◌, ℕ, List, take}
use Rattle.std.specs.List.{filter, flat_map}
use Rattle.term_model.specs.Plans.{four, has_factor, is_free}
use Rattle.join_plan.specs.PlanText.{variable_word}
use Rattle.join_plan.specs.Progress.{Marks}
use Rattle.join_plan.proofs.text.append_waiting.Given as goal

abbrev pub invariant-vars : goal.invariant-vars
invariant-vars l =
    (l.var ≤ 4) × ((vs : List ℕ) → Marks vs l.bound → l.out ≡ l.fn.out ++ flat_map (variable_word l.nest) (filter (λ v. is_free vs v && has_factor l.form v) (take l.var four)))

abbrev pub decreases-vars : goal.decreases-vars
decreases-vars l = 4 - l.var
