-- What a run asks of a job and of what its arrays begin with, and what it keeps from turn to turn.
use Rattle.std.specs.Prelude.{◌≡◌, ℕ, ◌≤◌, ◌<◌, ◌^◌, List, Some, length, map, slice_get, slice_set}
use Rattle.std.specs.List.{All, AllZip}
use Rattle.bern_base.specs.Matrix.{values_of}
use Rattle.bern_base.specs.declared.job.ArrayDecl.{ArrayDecl}
use Rattle.bern_base.specs.declared.job.Checked.{Checked}
use Rattle.bern_base.specs.declared.job.FormatDecl.{FormatDecl}
use Rattle.bern_base.specs.declared.job.Nest.{Nest}
use Rattle.bern_base.specs.declared.limits.TheConstants.{MOST_WEIGHT}
use Rattle.bern_base.specs.declared.matrix.Matrix.{Matrix}
use Rattle.formats.specs.Admitted.{HasLevels}
use Rattle.formats.specs.AnyStores.{any_grid, any_tree}
use Rattle.formats.specs.declared.any_store.AnyStore.{AnyStore}
use Rattle.format_model.specs.Trees.{Describes}
use Rattle.formats.specs.Builds.{part_grid}
use Rattle.job_files.specs.FileOrder.{IsArrayIn}
use Rattle.job_files.specs.RowOrders.{IsRowOrder}
use Rattle.job_files.specs.Weight.{weight_of}
use Rattle.job_model.specs.Accepted.{IsAccepted}
use Rattle.job_model.specs.State.{State}
use Rattle.placement.specs.declared.any_place.AnyPlace.{AnyPlace}
use Rattle.term_model.specs.declared.plan.PlannedTerm.{PlannedTerm}
use Rattle.term_model.specs.declared.plan.Plans.{Plans}
use Rattle.term_model.specs.Activity.{Entries}
use Rattle.term_model.specs.Queries.{ArePlansOf}
use Rattle.whole_laws.specs.HeldArrays.{IsWhole, all_rows}
use Rattle.whole_turns.specs.Turns.{IsHeld, IsTurned}

-- the state of the matrices that the arrays of a job begin with
abbrev pub first_state : List Matrix → State
first_state ms = map values_of ms

-- and their entries
abbrev pub entries_in : List Matrix → Entries
entries_in ms = map (λ m. m.entries) ms

-- the formats of a job have levels and its nests have variables, as each job's text gives them
pub record IsFormed (job : Checked) : Type 0 where
  pub levels : All (λ f. HasLevels f.shape) job.formats
  pub variables : All (λ n. 0 < length n.vars) job.nests

-- an accepted job, with the matrices and the orders of rows that its files passed with on some number of ranks
pub record CanRun (job : Checked) (matrices : List Matrix) (orders : List (List ℕ)) : Type 0 where
  pub accepted : IsAccepted job
  pub formed : IsFormed job
  pub ranks : ℕ
  pub some : 1 ≤ ranks
  pub light : weight_of job ranks ≤ MOST_WEIGHT
  pub arrays : AllZip (IsArrayIn job.formats) job.arrays matrices
  pub rows : AllZip (IsRowOrder job.formats) job.arrays orders

-- an array of this number with a whole matrix and an order of its rows that can be built
pub record IsForArray (job : Checked) (number : ℕ) (m : Matrix) (order : List ℕ) : Type 0 where
  pub array : ArrayDecl
  pub format : FormatDecl
  pub ranks : ℕ
  pub array_is : slice_get job.arrays number ≡ Some array
  pub format_is : slice_get job.formats array.format ≡ Some format
  pub whole : IsWhole array format ranks order m

-- a store of it
pub record BuildsStore (job : Checked) (number : ℕ) (m : Matrix) (s : AnyStore) : Type 0 where
  pub array : ArrayDecl
  pub format : FormatDecl
  pub ranks : ℕ
  pub order : List ℕ
  pub array_is : slice_get job.arrays number ≡ Some array
  pub format_is : slice_get job.formats array.format ≡ Some format
  pub whole : IsWhole array format ranks order m
  pub small : All (λ e. e.value < 2 ^ 64) m.entries
  pub described : Describes (any_tree s) format.shape (all_rows m) order m
  pub grid : any_grid s ≡ part_grid format.shape m

-- stores hold some state
pub record AreHeld (job : Checked) (places : List AnyPlace) (stores : List AnyStore) : Type 0 where
  pub entries : Entries
  pub state : State
  pub held : IsHeld job entries state places stores

-- plans of the terms of all nests, each of which has a variable; and the turns are of nests
pub record ArePlannedNests (job : Checked) (plans : Plans) : Type 0 where
  pub plans_are : ArePlansOf job plans
  pub variables : All (λ n. 0 < length n.vars) job.nests
  pub turns : All (λ k. k < length job.nests) job.turns

-- a turn has led the stores on
pub record IsTurnedTo (job : Checked) (places : List AnyPlace) (nest : Nest) (planned : List PlannedTerm) (stores after : List AnyStore) : Type 0 where
  pub count : ℕ
  pub sums : List ℕ
  pub old : AnyStore
  pub new : AnyStore
  pub turned : IsTurned job places nest planned stores count sums old new
  pub after_is : after ≡ slice_set stores nest.target.array new
