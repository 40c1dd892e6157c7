-- One turn of a nest at a rank among several, over views of the rank's parts.
use Rattle.std.specs.Prelude.{◌≡◌, ◌≢◌, ℕ, ◌<◌, ◌^◌, List, Some, slice_get, slice_index}
use Rattle.bern_base.specs.declared.job.ArrayDecl.{ArrayDecl}
use Rattle.bern_base.specs.declared.job.Checked.{Checked}
use Rattle.bern_base.specs.declared.job.Nest.{Nest}
use Rattle.job_model.specs.Nests.{after_nest}
use Rattle.job_model.specs.State.{State}
use Rattle.pass_model.specs.Local.{IsOwn, local_element, own_size}
use Rattle.pass_model.specs.Sums.{body_sum, home_points}
use Rattle.split_exec.specs.Applying.{CanApply, HasSize, IsApplied}
use Rattle.split_exec.specs.Passing.{CanPass, HasSums}
use Rattle.term_model.specs.declared.plan.PlannedTerm.{PlannedTerm}
use Rattle.term_model.specs.Activity.{Entries}
use Rattle.term_model.specs.Answers.{Places}
use Rattle.whole_turns.specs.Turns.{IsPlannedNest}
use Rattle.part_turns.specs.HeldParts.{AreHeldAt, Shown, grid_at, setting_at, tree_at}

-- the passes and `apply` can be called at the rank, with a sum for each element of the target that it owns
pub record CanTurnAt (job : Checked) (places : Places) (ranks : List ℕ) (rank : ℕ) (nest : Nest) (planned : List PlannedTerm) (shown : Shown) : Type 0 where
  pub pass : CanPass (setting_at job places ranks nest shown) rank planned
  pub array : ArrayDecl
  pub array_is : slice_get job.arrays nest.target.array ≡ Some array
  pub few : own_size places array rank < 2 ^ 32
  pub sums : HasSums (setting_at job places ranks nest shown) rank (own_size places array rank)
  pub apply : CanApply job places ranks nest rank (own_size places array rank) (grid_at shown nest.target.array)

abbrev pub TurnsOfPartsCanBeMade : Type 0
TurnsOfPartsCanBeMade =
    (job : Checked) (entries : Entries) (state : State) (places : Places) (ranks : List ℕ) (rank : ℕ) (shown : Shown) (nest : Nest)
    (planned : List PlannedTerm) →
    AreHeldAt job entries state places ranks rank shown → IsPlannedNest job nest planned → CanTurnAt job places ranks rank nest planned shown

-- each element of the target that the rank owns has for its sum what the body adds to it at the points at home at the rank
abbrev pub AreBodySums : Checked → State → Places → ℕ → Nest → List ℕ → Type 0
AreBodySums job state places rank nest sums =
    (array : ArrayDecl) → slice_get job.arrays nest.target.array ≡ Some array → (n : ℕ) → IsOwn places array rank n →
    slice_index sums (local_element places array rank n) ≡ body_sum job state nest n (home_points job places nest rank)

-- the target was led on by such sums and has as many elements as before, and the views of all other arrays are as they were
pub record AreTurnedAt (job : Checked) (state : State) (places : Places) (rank : ℕ) (nest : Nest) (old new : Shown) : Type 0 where
  pub sums : List ℕ
  pub are : AreBodySums job state places rank nest sums
  pub applied : IsApplied job places nest rank sums (grid_at old nest.target.array) (grid_at new nest.target.array)
  pub size : (array : ArrayDecl) → slice_get job.arrays nest.target.array ≡ Some array →
      HasSize (grid_at new nest.target.array) (own_size places array rank)
  pub trees : (number : ℕ) → number ≢ nest.target.array → tree_at new number ≡ tree_at old number
  pub grids : (number : ℕ) → number ≢ nest.target.array → grid_at new number ≡ grid_at old number

-- and then the views hold the rank's parts in the state after the nest
abbrev pub TurnsOfPartsAreHeld : Type 0
TurnsOfPartsAreHeld =
    (job : Checked) (entries : Entries) (state : State) (places : Places) (ranks : List ℕ) (rank : ℕ) (old new : Shown) (nest : Nest)
    (planned : List PlannedTerm) →
    AreHeldAt job entries state places ranks rank old → IsPlannedNest job nest planned → AreTurnedAt job state places rank nest old new →
    AreHeldAt job entries (after_nest job.arrays state nest) places ranks rank new
