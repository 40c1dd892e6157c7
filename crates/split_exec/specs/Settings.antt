-- What the passes of a nest are given, and what the views hold.
use Rattle.std.specs.Prelude.{◌≡◌, ℕ, ◌+◌, ◌*◌, ◌<◌, ◌≤◌, true, false, List, Option, Some, None, map, slice_get, slice_index_or}
use Rattle.std.specs.List.{All}
use Rattle.bern_base.specs.declared.job.ArrayDecl.{ArrayDecl}
use Rattle.bern_base.specs.declared.job.Checked.{Checked}
use Rattle.bern_base.specs.declared.job.FormatDecl.{FormatDecl}
use Rattle.bern_base.specs.declared.job.Nest.{Nest}
use Rattle.bern_base.specs.declared.limits.TheConstants.{MOST_WEIGHT}
use Rattle.format_model.specs.Elements.{path_of}
use Rattle.format_model.specs.Grids.{Grid, HasElement, value_of_element}
use Rattle.format_model.specs.Laws.{searched}
use Rattle.format_model.specs.Stored.{is_stored}
use Rattle.format_model.specs.Trees.{Tree}
use Rattle.job_model.specs.Accepted.{IsAccepted}
use Rattle.job_model.specs.Runnable.{is_dense}
use Rattle.job_model.specs.State.{State, read}
use Rattle.node_prog.specs.Conditions.{ArePlaced}
use Rattle.node_prog.specs.Visiting.{Scene}
use Rattle.pass_model.specs.Local.{IsOwn, local_element}
use Rattle.placement.specs.Placement.{Triple}
use Rattle.plan_courses.specs.JobCourses.{IsView}
use Rattle.term_model.specs.declared.plan.PlannedTerm.{PlannedTerm}
use Rattle.term_model.specs.Activity.{Entries, entries_of}
use Rattle.term_model.specs.Answers.{Places, owner_in}
use Rattle.visits.specs.Ways.{no_tree}

-- the job, the triples and the numbers of ranks of its places, a nest, and the trees and the elements of the arrays' views
pub record Setting : Type 0 where
  pub job : Checked
  pub places : Places
  pub ranks : List ℕ
  pub nest : Nest
  pub trees : List Tree
  pub grids : List (Option Grid)

abbrev pub setting : {P V : Type 0} → (P → List Triple) → (P → ℕ) → (V → Tree) → (V → Option Grid) →
    Checked → List P → Nest → List V → Setting
setting triples ranks tree grid job places nest stores = record {
  job = job;
  places = map triples places;
  ranks = map ranks places;
  nest = nest;
  trees = map tree stores;
  grids = map grid stores;
}

-- what the visit of a planned term is given
abbrev pub scene_of : Setting → PlannedTerm → Scene
scene_of s p = record { job = s.job; places = s.places; ranks = s.ranks; nest = s.nest; planned = p; trees = s.trees }

abbrev pub tree_in : Setting → ℕ → Tree
tree_in s number = slice_index_or s.trees number no_tree

abbrev pub grid_in : Setting → ℕ → Option Grid
grid_in s number = slice_index_or s.grids number None

-- the views have the rank's parts of arrays with these entries: a view of an array that is stored whole has each element that the rank
-- owns, by its number in the part; another view has a leaf for each element that the array stores there
pub record HaveParts (s : Setting) (entries : Entries) (rank : ℕ) : Type 0 where
  pub sparse : (number : ℕ) (array : ArrayDecl) → slice_get s.job.arrays number ≡ Some array → is_dense s.job.formats array ≡ false →
      IsView s.job entries s.places rank number (tree_in s number)
  pub whole : (number : ℕ) (array : ArrayDecl) → slice_get s.job.arrays number ≡ Some array → is_dense s.job.formats array ≡ true →
      (n : ℕ) → IsOwn s.places array rank n → HasElement (grid_in s number) (local_element s.places array rank n)

-- and these have the values of a state
pub record HaveValues (s : Setting) (entries : Entries) (state : State) (rank : ℕ) : Type 0 where
  pub sparse : (number : ℕ) (array : ArrayDecl) (format : FormatDecl) → slice_get s.job.arrays number ≡ Some array →
      slice_get s.job.formats array.format ≡ Some format → is_dense s.job.formats array ≡ false →
      (row col : ℕ) → row < array.rows → col < array.cols → owner_in s.places (Some array) (row * array.cols + col) ≡ rank →
      is_stored format.shape (entries_of entries number) row col ≡ true →
      searched (tree_in s number) (path_of format.shape array.cols row col) ≡ Some (read state number (row * array.cols + col))
  pub whole : (number : ℕ) (array : ArrayDecl) → slice_get s.job.arrays number ≡ Some array → is_dense s.job.formats array ≡ true →
      (n : ℕ) → IsOwn s.places array rank n →
      value_of_element (grid_in s number) (local_element s.places array rank n) ≡ read state number n

-- the views show the rank's parts of arrays with these entries in a state
pub record ShowState (s : Setting) (entries : Entries) (state : State) (rank : ℕ) : Type 0 where
  pub parts : HaveParts s entries rank
  pub values : HaveValues s entries state rank

-- each array that is stored whole has few elements, as the limit on what arrays weigh together gives
abbrev pub AreSmall : Checked → Type 0
AreSmall job = All (λ array. is_dense job.formats array ≡ true → array.rows * array.cols ≤ MOST_WEIGHT) job.arrays

-- an accepted job at a rank of places as they have to be, with arrays that are small where they are stored whole
pub record IsAtRank (job : Checked) (places : Places) (ranks : List ℕ) (rank : ℕ) : Type 0 where
  pub accepted : IsAccepted job
  pub placed : ArePlaced job places ranks rank
  pub small : AreSmall job
