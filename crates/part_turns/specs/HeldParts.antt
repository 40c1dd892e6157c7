-- Views that hold a rank's parts of the arrays of a job in a state.
use Rattle.std.specs.Prelude.{◌≡◌, ℕ, ◌^◌, ◌*◌, ◌<◌, true, false, List, Option, Some, None, slice_get, slice_index, slice_index_or}
use Rattle.std.specs.List.{All}
use Rattle.bern_base.specs.Matrix.{element}
use Rattle.bern_base.specs.declared.job.ArrayDecl.{ArrayDecl}
use Rattle.bern_base.specs.declared.job.Checked.{Checked}
use Rattle.bern_base.specs.declared.job.Nest.{Nest}
use Rattle.format_model.specs.Grids.{Grid, HasElement, value_of_element}
use Rattle.format_model.specs.Trees.{Tree}
use Rattle.job_model.specs.Runnable.{is_dense}
use Rattle.job_model.specs.State.{State, read}
use Rattle.nest_laws.specs.NestLaws.{IsStateOf}
use Rattle.pass_model.specs.Local.{IsOwn, local_element, own_size}
use Rattle.split_exec.specs.Applying.{HasSize}
use Rattle.split_exec.specs.Settings.{IsAtRank, Setting, ShowState}
use Rattle.term_model.specs.Activity.{Entries, SparseHoldZeros, entries_of}
use Rattle.term_model.specs.Answers.{Places}
use Rattle.view_laws.specs.PartViews.{IsViewOfPart}
use Rattle.visits.specs.Ways.{no_tree}

-- a part that is kept whole has as many elements as the rank owns of the array, and each of these by its number in the part, with its
-- value in the state
pub record HoldsDense (state : State) (places : Places) (rank number : ℕ) (array : ArrayDecl) (g : Option Grid) : Type 0 where
  pub size : HasSize g (own_size places array rank)
  pub there : (n : ℕ) → IsOwn places array rank n → HasElement g (local_element places array rank n)
  pub value : (n : ℕ) → IsOwn places array rank n → value_of_element g (local_element places array rank n) ≡ read state number n

-- a view of a rank's part of an array that is kept sparse, which has the values of its entries in the state
pub record HoldsSparse (job : Checked) (entries : Entries) (state : State) (places : Places) (rank number : ℕ) (array : ArrayDecl) (t : Tree) : Type 0 where
  pub ranks : ℕ
  pub view : IsViewOfPart job entries places ranks rank number t
  pub small : All (λ e. e.value < 2 ^ 64) (entries_of entries number)
  pub values : (n : ℕ) → n < array.rows * array.cols → read state number n ≡ element array.cols (entries_of entries number) n

-- what the views of a rank are: for each array of a job its tree and, where it is kept whole, its elements
pub record Shown : Type 0 where
  pub trees : List Tree
  pub grids : List (Option Grid)

abbrev pub tree_at : Shown → ℕ → Tree
tree_at shown number = slice_index_or shown.trees number no_tree

abbrev pub grid_at : Shown → ℕ → Option Grid
grid_at shown number = slice_index_or shown.grids number None

-- an accepted job at a rank of its places, a state of it in which sparse arrays hold 0 where they store nothing, and views that hold the
-- rank's parts of all its arrays in this state
pub record AreHeldAt (job : Checked) (entries : Entries) (state : State) (places : Places) (ranks : List ℕ) (rank : ℕ) (shown : Shown) : Type 0 where
  pub at : IsAtRank job places ranks rank
  pub kept : IsStateOf job state
  pub zeros : SparseHoldZeros job entries state
  pub dense : (number : ℕ) (array : ArrayDecl) → slice_get job.arrays number ≡ Some array → is_dense job.formats array ≡ true →
      HoldsDense state places rank number array (grid_at shown number)
  pub sparse : (number : ℕ) (array : ArrayDecl) → slice_get job.arrays number ≡ Some array → is_dense job.formats array ≡ false →
      HoldsSparse job entries state places rank number array (tree_at shown number)

-- what the passes of a nest are given
abbrev pub setting_at : Checked → Places → List ℕ → Nest → Shown → Setting
setting_at job places ranks nest shown = record {
  job = job;
  places = places;
  ranks = ranks;
  nest = nest;
  trees = shown.trees;
  grids = shown.grids;
}

-- such views show the passes the state
abbrev pub HeldPartsShowTheState : Type 0
HeldPartsShowTheState =
    (job : Checked) (entries : Entries) (state : State) (places : Places) (ranks : List ℕ) (rank : ℕ) (shown : Shown) (nest : Nest) →
    AreHeldAt job entries state places ranks rank shown → ShowState (setting_at job places ranks nest shown) entries state rank
