-- A view of a part that is stored whole, and the elements that it has after one of them is set.
use Rattle.std.specs.Prelude.{◌≡◌, ℕ, Bool, List, Option, Some, slice_set}
use Rattle.bern_base.specs.Matrix.{values_of}
use Rattle.bern_base.specs.declared.axes.Axis.{Axis}
use Rattle.bern_base.specs.declared.matrix.Matrix.{Matrix}
use Rattle.format_model.specs.Grids.{Grid, with_element}
use Rattle.format_model.specs.Trees.{Describes, Tree}
use Rattle.local_views.specs.Views.{Cut, global_col, global_row, moved_grid}
use Rattle.stores_flat.specs.Dense.{dense_shape, grid_of}

-- the elements of a part at their rows and columns of the array, still by their numbers in the part
abbrev pub viewed : Cut → Grid → Grid
viewed cut g = moved_grid (global_row cut) (global_col cut) g

-- the store within a view had the elements of a part; one element of the view was set; and another part of the same sizes has the
-- values of the first one but for that element
pub record SetsViewed (kept before after : Option Grid) (single : Bool) (outer : Axis) (old new : Matrix) (element value : ℕ) : Type 0 where
  pub had : kept ≡ Some (grid_of single outer old)
  pub set : after ≡ with_element before element value
  pub rows : new.rows ≡ old.rows
  pub cols : new.cols ≡ old.cols
  pub values : values_of new ≡ slice_set (values_of old) element value

-- the store within a view, with this tree and these elements, has those of a part and describes it; and the view has them at their
-- rows and columns of the array
pub record HasElements (cut : Cut) (tree : Tree) (kept seen : Option Grid) (single : Bool) (outer : Axis) (part : Matrix) : Type 0 where
  pub store : kept ≡ Some (grid_of single outer part)
  pub describes : (globals order : List ℕ) → Describes tree (dense_shape single outer) globals order part
  pub view : seen ≡ Some (viewed cut (grid_of single outer part))
