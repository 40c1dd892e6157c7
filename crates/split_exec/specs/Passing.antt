-- What a pass needs, and what it adds to the sums.
use Rattle.std.specs.Prelude.{◌≡◌, ℕ, ◌<◌, List, Some, length, map, slice_get, slice_index}
use Rattle.std.specs.List.{All, Contains, sum_by}
use Rattle.bern_base.specs.Ring.{ring_add}
use Rattle.bern_base.specs.declared.job.ArrayDecl.{ArrayDecl}
use Rattle.job_model.specs.State.{State}
use Rattle.node_prog.specs.Visiting.{term_course}
use Rattle.pass_model.specs.Local.{IsOwn, local_element, own_size}
use Rattle.pass_model.specs.Sums.{interior_sum}
use Rattle.plan_courses.specs.JobCourses.{IsPlanOf}
use Rattle.plan_courses.specs.PlanCourses.{origin}
use Rattle.term_model.specs.declared.plan.PlannedTerm.{PlannedTerm}
use Rattle.term_model.specs.Activity.{Entries}
use Rattle.walks.specs.Cost.{whole_budget}
use Rattle.split_exec.specs.Settings.{HaveParts, IsAtRank, Setting, ShowState, scene_of}

-- one sum for each element of the target that the rank owns
abbrev pub HasSums : Setting → ℕ → ℕ → Type 0
HasSums s rank count = (array : ArrayDecl) → slice_get s.job.arrays s.nest.target.array ≡ Some array → count ≡ own_size s.places array rank

-- plans of terms of a nest with a variable, and views that have the rank's parts of arrays with some entries
pub record CanPass (s : Setting) (rank : ℕ) (planned : List PlannedTerm) : Type 0 where
  pub at : IsAtRank s.job s.places s.ranks rank
  pub nest_is : Contains s.job.nests s.nest
  pub some : 0 < length s.nest.vars
  pub plans : All (λ p. IsPlanOf s.job s.nest p.term p.plan) planned
  pub entries : Entries
  pub parts : HaveParts s entries rank

-- in the state that the views show, the sum of each element of the target that the rank owns has grown by what the interior points add
abbrev pub AddsInterior : Setting → ℕ → List PlannedTerm → List ℕ → List ℕ → Type 0
AddsInterior s rank planned old new =
    (entries : Entries) (state : State) → ShowState s entries state rank →
    (array : ArrayDecl) → slice_get s.job.arrays s.nest.target.array ≡ Some array → (n : ℕ) → IsOwn s.places array rank n →
    slice_index new (local_element s.places array rank n)
    ≡ ring_add (slice_index old (local_element s.places array rank n))
    (interior_sum s.job entries s.places state s.nest rank n (map (λ p. p.term) planned))

-- the most steps that visits of these terms take
abbrev pub pass_budget : Setting → ℕ → List PlannedTerm → ℕ
pass_budget s rank planned = sum_by (λ p. whole_budget (term_course (scene_of s p) rank) origin) planned
