-- One turn of a nest on one rank, over stores of whole arrays.
use Rattle.std.specs.Prelude.{◌≡◌, ℕ, ◌*◌, ◌<◌, ◌^◌, List, Some, length, map, replicate, slice_get, slice_set}
use Rattle.std.specs.List.{Contains}
use Rattle.bern_base.specs.declared.job.ArrayDecl.{ArrayDecl}
use Rattle.bern_base.specs.declared.job.Checked.{Checked}
use Rattle.bern_base.specs.declared.job.Nest.{Nest}
use Rattle.formats.specs.AnyStores.{any_grid, any_tree}
use Rattle.formats.specs.declared.any_store.AnyStore.{AnyStore}
use Rattle.job_model.specs.Accepted.{IsAccepted}
use Rattle.job_model.specs.Nests.{after_nest}
use Rattle.job_model.specs.State.{State}
use Rattle.nest_laws.specs.NestLaws.{IsStateOf}
use Rattle.placement.specs.AnyPlaces.{any_ranks, any_triples}
use Rattle.placement.specs.declared.any_place.AnyPlace.{AnyPlace}
use Rattle.split_exec.specs.Applying.{CanApply, IsApplied}
use Rattle.split_exec.specs.Passing.{AddsInterior, CanPass, HasSums}
use Rattle.split_exec.specs.Settings.{AreSmall, Setting, setting}
use Rattle.pass_model.specs.Sums.{PassesSum}
use Rattle.term_model.specs.declared.plan.PlannedTerm.{PlannedTerm}
use Rattle.term_model.specs.Activity.{Entries, SparseHoldZeros}
use Rattle.term_model.specs.Queries.{ArePlanned}
use Rattle.whole_laws.specs.HeldArrays.{HoldsState}
use Rattle.whole_turns.specs.OneRank.{AreWhole}

-- an accepted job with small arrays, a state of it in which sparse arrays hold 0 where they store nothing, and stores that hold it
pub record IsHeld (job : Checked) (entries : Entries) (state : State) (places : List AnyPlace) (stores : List AnyStore) : Type 0 where
  pub accepted : IsAccepted job
  pub small : AreSmall job
  pub placed : AreWhole job places
  pub kept : IsStateOf job state
  pub zeros : SparseHoldZeros job entries state
  pub holds : HoldsState job entries state stores

-- a nest of the job with a variable, and plans of its terms
pub record IsPlannedNest (job : Checked) (nest : Nest) (planned : List PlannedTerm) : Type 0 where
  pub nest_is : Contains job.nests nest
  pub some : 0 < length nest.vars
  pub plans : ArePlanned job nest planned

abbrev pub setting_of : Checked → List AnyPlace → Nest → List AnyStore → Setting
setting_of job places nest stores = setting any_triples any_ranks any_tree any_grid job places nest stores

-- the target of a nest: an array of the job, whose elements are few, with a store
pub record HasTarget (job : Checked) (places : List AnyPlace) (nest : Nest) (stores : List AnyStore) : Type 0 where
  pub array : ArrayDecl
  pub store : AnyStore
  pub array_is : slice_get job.arrays nest.target.array ≡ Some array
  pub store_is : slice_get stores nest.target.array ≡ Some store
  pub few : array.rows * array.cols < 2 ^ 32
  pub sums : HasSums (setting_of job places nest stores) 0 (array.rows * array.cols)
  pub apply : CanApply job (map any_triples places) (map any_ranks places) nest 0 (array.rows * array.cols) (any_grid store)

-- the passes and `apply` can be called at rank 0, with a sum for each element of the target
pub record CanTurn (job : Checked) (places : List AnyPlace) (nest : Nest) (planned : List PlannedTerm) (stores : List AnyStore) : Type 0 where
  pub pass : CanPass (setting_of job places nest stores) 0 planned
  pub target : HasTarget job places nest stores

abbrev pub TurnsCanBeMade : Type 0
TurnsCanBeMade =
    (job : Checked) (entries : Entries) (state : State) (places : List AnyPlace) (stores : List AnyStore) (nest : Nest) (planned : List PlannedTerm) →
    IsHeld job entries state places stores → IsPlannedNest job nest planned → CanTurn job places nest planned stores

-- the interior pass was made from sums of 0, and the target's store was led on by the sums
pub record IsTurned (job : Checked) (places : List AnyPlace) (nest : Nest) (planned : List PlannedTerm) (stores : List AnyStore) (count : ℕ) (sums : List ℕ) (old new : AnyStore) : Type 0 where
  pub old_is : slice_get stores nest.target.array ≡ Some old
  pub added : AddsInterior (setting_of job places nest stores) 0 planned (replicate count 0) sums
  pub applied : IsApplied job (map any_triples places) nest 0 sums (any_grid old) (any_grid new)

-- and then the stores hold the state after the nest
abbrev pub TurnsAreHeld : Type 0
TurnsAreHeld = PassesSum →
    (job : Checked) (entries : Entries) (state : State) (places : List AnyPlace) (stores : List AnyStore) (nest : Nest) (planned : List PlannedTerm) (count : ℕ) (sums : List ℕ) (old new : AnyStore) →
    IsHeld job entries state places stores → IsPlannedNest job nest planned → IsTurned job places nest planned stores count sums old new →
    IsHeld job entries (after_nest job.arrays state nest) places (slice_set stores nest.target.array new)
