-- What stores of whole arrays are to the loops of a job.
use Rattle.std.specs.Prelude.{◌≡◌, ◌≢◌, ℕ, ◌*◌, ◌+◌, ◌^◌, ◌<◌, true, List, [], Option, Some, map, slice_get, slice_index, slice_set}
use Rattle.std.specs.List.{All}
use Rattle.bern_base.specs.Matrix.{values_of}
use Rattle.bern_base.specs.Shapes.{is_all_dense}
use Rattle.bern_base.specs.declared.job.ArrayDecl.{ArrayDecl}
use Rattle.bern_base.specs.declared.job.Checked.{Checked}
use Rattle.bern_base.specs.declared.job.FormatDecl.{FormatDecl}
use Rattle.bern_base.specs.declared.matrix.Matrix.{Matrix}
use Rattle.format_model.specs.Elements.{path_of}
use Rattle.format_model.specs.Grids.{Grid, HasElement, value_of_element}
use Rattle.format_model.specs.Laws.{searched}
use Rattle.format_model.specs.Stored.{is_stored}
use Rattle.format_model.specs.Trees.{Describes, IsTree, Tree}
use Rattle.formats.specs.AnyStores.{any_grid, any_tree}
use Rattle.formats.specs.Builds.{CanBuild, part_grid}
use Rattle.formats.specs.declared.any_store.AnyStore.{AnyStore}
use Rattle.job_model.specs.State.{State, values_in}
use Rattle.plan_courses.specs.JobCourses.{IsView}
use Rattle.term_model.specs.Activity.{Entries, SparseHoldZeros, entries_of}
use Rattle.term_model.specs.Answers.{Places}
use Rattle.whole_laws.specs.HeldArrays.{HoldsArray, HoldsState, IsWhole, all_rows}

-- what the rules and checks let through can be built whole
abbrev pub WholesCanBeBuilt : Type 0
WholesCanBeBuilt =
    (decl : ArrayDecl) (format : FormatDecl) (ranks : ℕ) (order : List ℕ) (m : Matrix) → IsWhole decl format ranks order m → CanBuild format.shape (all_rows m) order m

-- a tree that describes the whole matrix of an array holds the array with the matrix's values
pub record IsBuilt (job : Checked) (entries : Entries) (number : ℕ) (m : Matrix) (t : Tree) (g : Option Grid) : Type 0 where
  pub array : ArrayDecl
  pub format : FormatDecl
  pub ranks : ℕ
  pub order : List ℕ
  pub array_is : slice_get job.arrays number ≡ Some array
  pub format_is : slice_get job.formats array.format ≡ Some format
  pub whole : IsWhole array format ranks order m
  pub small : All (λ e. e.value < 2 ^ 64) m.entries
  pub entries_are : entries_of entries number ≡ m.entries
  pub lawful : IsTree t
  pub described : Describes t format.shape (all_rows m) order m
  pub grid : g ≡ part_grid format.shape m

abbrev pub BuiltArraysAreHeld : Type 0
BuiltArraysAreHeld =
    (job : Checked) (entries : Entries) (number : ℕ) (m : Matrix) (t : Tree) (g : Option Grid) →
    IsBuilt job entries number m t g → HoldsArray job entries number (values_of m) t g

-- what holds an array is a view of it as the loops of a job ask for, at every rank and for all places
abbrev pub HeldArraysAreViews : Type 0
HeldArraysAreViews =
    (job : Checked) (entries : Entries) (number : ℕ) (values : List ℕ) (t : Tree) (g : Option Grid) → HoldsArray job entries number values t g →
    (places : Places) (rank : ℕ) → IsView job entries places rank number t

-- where the array stores an element, the leaf to which searches lead has its value
abbrev pub HeldArraysHaveTheValues : Type 0
HeldArraysHaveTheValues =
    (job : Checked) (entries : Entries) (number : ℕ) (values : List ℕ) (t : Tree) (g : Option Grid) → (h : HoldsArray job entries number values t g) →
    (row col : ℕ) → row < h.array.rows → col < h.array.cols → is_stored h.format.shape (entries_of entries number) row col ≡ true →
    searched t (path_of h.format.shape h.array.cols row col) ≡ Some (slice_index values (row * h.array.cols + col))

-- an array that is kept whole has each element at its number
pub record HasCell (g : Option Grid) (values : List ℕ) (element : ℕ) : Type 0 where
  pub there : HasElement g element
  pub value : value_of_element g element ≡ slice_index values element

abbrev pub HeldArraysHaveCells : Type 0
HeldArraysHaveCells =
    (job : Checked) (entries : Entries) (number : ℕ) (values : List ℕ) (t : Tree) (g : Option Grid) → (h : HoldsArray job entries number values t g) →
    is_all_dense h.format.shape ≡ true → (element : ℕ) → element < h.array.rows * h.array.cols → HasCell g values element

-- a store that is kept whole has other values at its elements, each below 2^64
pub record HasNewValues (old new : AnyStore) (values : List ℕ) : Type 0 where
  pub grid : Grid
  pub had : any_grid old ≡ Some grid
  pub has : any_grid new ≡ Some (record grid { values = values })
  pub small : All (λ v. v < 2 ^ 64) values

-- and so holds the array with these values
abbrev pub ChangedStoresHold : Type 0
ChangedStoresHold =
    (job : Checked) (entries : Entries) (number : ℕ) (before after : List ℕ) (old new : AnyStore) →
    HoldsArray job entries number before (any_tree old) (any_grid old) → HasNewValues old new after → HoldsArray job entries number after (any_tree new) (any_grid new)

-- a state in which one array has other values, and stores of which one has them
pub record HasNewArray (before after : State) (number : ℕ) (old new : AnyStore) (stores : List AnyStore) : Type 0 where
  pub store_is : slice_get stores number ≡ Some old
  pub values : HasNewValues old new (values_in after number)
  pub others : (other : ℕ) → other ≢ number → values_in after other ≡ values_in before other

abbrev pub ChangedStatesAreHeld : Type 0
ChangedStatesAreHeld =
    (job : Checked) (entries : Entries) (before after : State) (number : ℕ) (old new : AnyStore) (stores : List AnyStore) →
    HoldsState job entries before stores → HasNewArray before after number old new stores → HoldsState job entries after (slice_set stores number new)

-- an array of a job has a whole matrix that keeps the rules
pub record IsWholeAt (job : Checked) (number : ℕ) (m : Matrix) : Type 0 where
  pub array : ArrayDecl
  pub format : FormatDecl
  pub ranks : ℕ
  pub order : List ℕ
  pub array_is : slice_get job.arrays number ≡ Some array
  pub format_is : slice_get job.formats array.format ≡ Some format
  pub whole : IsWhole array format ranks order m

-- the state of whole matrices has 0 where a sparse array stores nothing
abbrev pub WholesHoldZeros : Type 0
WholesHoldZeros =
    (job : Checked) (ms : List Matrix) → ((number : ℕ) (m : Matrix) → slice_get ms number ≡ Some m → IsWholeAt job number m) →
    SparseHoldZeros job (map (λ m. m.entries) ms) (map values_of ms)
