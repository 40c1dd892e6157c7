-- Of the variables from this one on, those for which the subscript waits are counted.
use Rattle.std.proofs.Common.{◌≡◌, ℕ, ◌-◌, ◌≤◌, ◌&&◌, List, length, get_or}
use Rattle.term_model.specs.Plans.{has_factor, is_free}
use Rattle.join_plan.specs.Progress.{Marks}
use Rattle.join_plan.proofs.WaitingLemmas.{left}
use Rattle.join_plan.proofs.waiting.waiting.Given as goal

abbrev pub invariant-vars : goal.invariant-vars
invariant-vars l = (l.var ≤ 4) × (l.count ≤ 4 - l.var) × ((vs : List ℕ) → Marks vs l.bound → (l.count ≡ length (left (λ v. is_free vs v && has_factor l.form v) l.var)) × (l.first ≡ get_or (left (λ v. is_free vs v && has_factor l.form v) l.var) 0 4))

abbrev pub decreases-vars : goal.decreases-vars
decreases-vars l = l.var
