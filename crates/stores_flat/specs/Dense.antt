-- Parts that are stored whole, line after line.
use Rattle.std.specs.Prelude.{ℕ, zero, suc, ◌+◌, ◌*◌, ◌/◌, ◌%◌, Bool, true, false, List, map, slice_index}
use Rattle.std.specs.List.{range_with_len}
use Rattle.bern_base.specs.Matrix.{values_of}
use Rattle.bern_base.specs.declared.axes.Axis.{Axis}
use Rattle.bern_base.specs.declared.axes.Axis.TheVariants as axis
use Rattle.bern_base.specs.declared.matrix.Matrix.{Matrix}
use Rattle.bern_base.specs.declared.shape.Shape.{Shape}
use Rattle.bern_base.specs.declared.shape.Shape.TheVariants as shape
use Rattle.format_model.specs.Grids.{Grid}
use Rattle.format_model.specs.Levels.{levels_of}
use Rattle.format_model.specs.Made.{made}
use Rattle.format_model.specs.Trees.{Tree}
use Rattle.stores_flat.specs.declared.layout.Layout.{Layout}
use Rattle.stores_flat.specs.declared.layout.Layout.TheVariants as layout

-- the format of one dense level, or of two with this axis for the outer one
abbrev pub dense_shape : Bool → Axis → Shape
dense_shape true outer = shape.DenseOne
dense_shape false outer = shape.DenseDense outer

abbrev pub is_single : Layout → Bool
is_single layout.Single = true
is_single layout.RowMajor = false
is_single layout.ColMajor = false

abbrev pub outer_of : Layout → Axis
outer_of layout.Single = axis.Row
outer_of layout.RowMajor = axis.Row
outer_of layout.ColMajor = axis.Col

-- how many rows and columns so many lines of a width are
abbrev pub rows_of : Layout → ℕ → ℕ → ℕ
rows_of layout.Single lines width = lines
rows_of layout.RowMajor lines width = lines
rows_of layout.ColMajor lines width = width

abbrev pub cols_of : Layout → ℕ → ℕ → ℕ
cols_of layout.Single lines width = width
cols_of layout.RowMajor lines width = width
cols_of layout.ColMajor lines width = lines

-- where an element lies: in column-major order its column is the line and its row the place in it
abbrev pub place_of : Layout → ℕ → ℕ → ℕ → ℕ
place_of layout.Single lines width element = element
place_of layout.RowMajor lines width element = element
place_of layout.ColMajor lines width element = element % lines * width + element / lines

-- how many children each parent of a level has
abbrev pub level_extent : ℕ → ℕ → ℕ → ℕ
level_extent lines width zero = lines
level_extent lines width (suc level) = width

abbrev pub dense_nodes : ℕ → ℕ → ℕ → ℕ
dense_nodes lines width zero = 1
dense_nodes lines width (suc level) = dense_nodes lines width level * level_extent lines width level

-- all indices below a parent, with its stretch of the next level's nodes
abbrev pub dense_children : ℕ → ℕ → List (ℕ × ℕ)
dense_children extent parent = made (λ index. index) (λ index. parent * extent + index) 0 extent

abbrev pub dense_tree : Layout → ℕ → ℕ → List ℕ → Tree
dense_tree l lines width values = record {
  levels = levels_of (dense_shape (is_single l) (outer_of l));
  nodes = dense_nodes lines width;
  start = λ level parent. parent * level_extent lines width level;
  children = λ level parent. dense_children (level_extent lines width level) parent;
  value = slice_index values;
}

-- a part with all its rows and columns, and these values by element number
abbrev pub grid_with : Bool → Axis → ℕ → ℕ → List ℕ → Grid
grid_with single outer rows cols values = record {
  single = single;
  outer = outer;
  rows = range_with_len 0 rows;
  cols = range_with_len 0 cols;
  values = values;
}

abbrev pub grid_of : Bool → Axis → Matrix → Grid
grid_of single outer m = grid_with single outer m.rows m.cols (values_of m)

-- the elements of a store
abbrev pub elements_of : Layout → ℕ → ℕ → List ℕ → List ℕ
elements_of l lines width values =
    map (λ element. slice_index values (place_of l lines width element)) (range_with_len 0 (rows_of l lines width * cols_of l lines width))

abbrev pub dense_grid : Layout → ℕ → ℕ → List ℕ → Grid
dense_grid l lines width values =
    grid_with (is_single l) (outer_of l) (rows_of l lines width) (cols_of l lines width) (elements_of l lines width values)
