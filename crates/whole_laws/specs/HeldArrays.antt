-- Stores of whole arrays, and stores that hold a state of a job.
use Rattle.std.specs.Prelude.{◌≡◌, ℕ, ◌+◌, ◌^◌, ◌<◌, ◌≤◌, List, Option, Some, None, length, slice_get}
use Rattle.std.specs.List.{All, range_with_len}
use Rattle.bern_base.specs.Matrix.{IsMatrix, values_of}
use Rattle.bern_base.specs.Shapes.{dims_of}
use Rattle.bern_base.specs.declared.job.ArrayDecl.{ArrayDecl}
use Rattle.bern_base.specs.declared.job.Checked.{Checked}
use Rattle.bern_base.specs.declared.job.FormatDecl.{FormatDecl}
use Rattle.bern_base.specs.declared.limits.TheConstants.{MOST_SIDE, MOST_WEIGHT}
use Rattle.bern_base.specs.declared.matrix.Matrix.{Matrix}
use Rattle.format_model.specs.Checks.{shape_rule}
use Rattle.format_model.specs.Grids.{Grid}
use Rattle.format_model.specs.Stored.{is_stored}
use Rattle.format_model.specs.Trees.{Describes, IsTree, Tree}
use Rattle.format_model.specs.Weights.{shape_weight}
use Rattle.formats.specs.Admitted.{HasLevels, HasOrder}
use Rattle.formats.specs.AnyStores.{any_grid, any_tree}
use Rattle.formats.specs.Builds.{CanBuild, part_grid}
use Rattle.formats.specs.declared.any_store.AnyStore.{AnyStore}
use Rattle.job_model.specs.State.{State, values_in}
use Rattle.term_model.specs.Activity.{Entries, entries_of}

-- an array that keeps the rules on its format and on its sizes, with a whole matrix that passed the checks of its sizes and diagonals,
-- an order of its rows where its format has one, and that weighs no more than all may on so many ranks
pub record IsWhole (decl : ArrayDecl) (format : FormatDecl) (ranks : ℕ) (order : List ℕ) (m : Matrix) : Type 0 where
  pub rows : decl.rows ≤ MOST_SIDE
  pub cols : decl.cols ≤ MOST_SIDE
  pub levels : HasLevels format.shape
  pub dims : decl.dims ≡ dims_of format.shape
  pub flat : decl.dims ≡ 1 → decl.cols ≡ 1
  pub matrix : IsMatrix m
  pub checked : shape_rule decl format m ≡ None
  pub listed : HasOrder format.shape decl.rows order
  pub some : 1 ≤ ranks
  pub weight : shape_weight format.shape ranks decl ≤ MOST_WEIGHT
  pub light : length m.entries ≤ MOST_WEIGHT

-- the rows of a whole array, by their numbers
abbrev pub all_rows : Matrix → List ℕ
all_rows m = range_with_len 0 m.rows

-- a tree, with its elements where it is stored whole, holds an array of a job with these values: it describes a matrix of them in the
-- array's format, and what it stores is what the array does by its entries
pub record HoldsArray (job : Checked) (entries : Entries) (number : ℕ) (values : List ℕ) (t : Tree) (g : Option Grid) : Type 0 where
  pub array : ArrayDecl
  pub format : FormatDecl
  pub order : List ℕ
  pub matrix : Matrix
  pub array_is : slice_get job.arrays number ≡ Some array
  pub format_is : slice_get job.formats array.format ≡ Some format
  pub levels : HasLevels format.shape
  pub can : CanBuild format.shape (all_rows matrix) order matrix
  pub small : All (λ e. e.value < 2 ^ 64) matrix.entries
  pub rows : matrix.rows ≡ array.rows
  pub cols : matrix.cols ≡ array.cols
  pub values_are : values ≡ values_of matrix
  pub stored : (row col : ℕ) → is_stored format.shape matrix.entries row col ≡ is_stored format.shape (entries_of entries number) row col
  pub lawful : IsTree t
  pub described : Describes t format.shape (all_rows matrix) order matrix
  pub grid : g ≡ part_grid format.shape matrix

-- a store for each array of a job, by its number, with the array's values in a state
pub record HoldsState (job : Checked) (entries : Entries) (state : State) (stores : List AnyStore) : Type 0 where
  pub count : length stores ≡ length job.arrays
  pub each : (number : ℕ) (s : AnyStore) → slice_get stores number ≡ Some s → HoldsArray job entries number (values_in state number) (any_tree s) (any_grid s)
