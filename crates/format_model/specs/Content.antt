-- What each format lists, and in which order: its indices level by level, with the values at the leaves.
use Rattle.std.specs.Prelude.{Bool, ℕ, ◌+◌, ◌-◌, ◌==◌, nat_lt, List, [], ◌∷◌, length, map, slice_index, position, ℤ, pos, negsuc, ◌+ℤ◌}
use Rattle.std.specs.List.{filter, filter_map, flat_map, list_any, range_with_len}
use Rattle.bern_base.specs.declared.axes.Axis.{Axis}
use Rattle.bern_base.specs.declared.axes.Axis.TheVariants as axis
use Rattle.bern_base.specs.declared.matrix.Entry.{Entry}
use Rattle.bern_base.specs.declared.matrix.Matrix.{Matrix}
use Rattle.bern_base.specs.declared.shape.Shape.{Shape}
use Rattle.bern_base.specs.declared.shape.Shape.TheVariants as shape
use Rattle.format_model.specs.Axes.{across, extent_of, index_of, value_on}

-- of one level: each index with its value; of two: each index of the outer one with the indices and values below it
pub data Content : Type 0 where
  One : List (ℕ × ℕ) → Content
  Two : List (ℕ × List (ℕ × ℕ)) → Content

-- an entry in a level on this axis: its index there, and its value
abbrev pub leaf_on : Axis → ℕ → Entry → ℕ × ℕ
leaf_on a cols e = (index_of a cols e, e.value)

-- the entries of a line, in their order
abbrev pub in_line : Axis → ℕ → ℕ → List Entry → List Entry
in_line a cols line entries = filter (λ e. index_of a cols e == line) entries

-- these lines, each with its entries
abbrev pub lines_of : Axis → Matrix → List ℕ → List (ℕ × List (ℕ × ℕ))
lines_of a m lines = map (λ l. (l, map (leaf_on (across a) m.cols) (in_line a m.cols l m.entries))) lines

-- all lines of an axis
abbrev pub all_lines : Axis → Matrix → List ℕ
all_lines a m = range_with_len 0 (extent_of a m.rows m.cols)

-- a line has an entry
abbrev pub is_filled : Axis → ℕ → List Entry → ℕ → Bool
is_filled a cols entries line = list_any (λ e. index_of a cols e == line) entries

-- those that have an entry
abbrev pub filled_lines : Axis → Matrix → List ℕ
filled_lines a m = filter (is_filled a m.cols m.entries) (all_lines a m)

-- how many entries a row has
abbrev pub count_in_row : Matrix → ℕ → ℕ
count_in_row m row = length (in_line axis.Row m.cols row m.entries)

-- the rows with so many entries, rising
abbrev pub rows_with : Matrix → ℕ → List ℕ
rows_with m count = filter (λ row. count_in_row m row == count) (all_lines axis.Row m)

-- the rows by falling count of entries, those of one count by rising row
abbrev pub rows_by_count : Matrix → List ℕ
rows_by_count m = flat_map (λ k. rows_with m (length m.entries - k)) (range_with_len 0 (length m.entries + 1))

-- a whole number as a column, where it is one
abbrev pub columns_of : ℕ → ℤ → List ℕ
columns_of cols (pos col) = filter (λ c. nat_lt c cols) (col ∷ [])
columns_of cols (negsuc n) = []

-- the columns at which a row of the array crosses the listed diagonals
abbrev pub diagonal_columns : ℕ → List ℤ → ℕ → List ℕ
diagonal_columns cols offsets row = flat_map (λ offset. columns_of cols (pos row +ℤ offset)) offsets

-- the local rows of a part, in the order in which the whole order has their rows
abbrev pub local_rows : List ℕ → List ℕ → List ℕ
local_rows globals order = filter_map (λ row. position (λ g. g == row) globals) order

-- all elements of a line, each with its value
abbrev pub full_line : Axis → Matrix → ℕ → ℕ × List (ℕ × ℕ)
full_line a m line = (line, map (λ i. (i, value_on a m line i)) (all_lines (across a) m))

-- the elements of a row of a part on the listed diagonals
abbrev pub diagonal_line : List ℤ → List ℕ → Matrix → ℕ → ℕ × List (ℕ × ℕ)
diagonal_line offsets globals m row = (row, map (λ col. (col, value_on axis.Row m row col)) (diagonal_columns m.cols offsets (slice_index globals row)))

-- the table of the contents. `globals` has the row of the array for each local row of the part, and `order` is that of a permute
-- format; the others do not look at it
abbrev pub content_of : Shape → List ℕ → List ℕ → Matrix → Content
content_of shape.DenseOne globals order m = One (map (λ row. (row, value_on axis.Row m row 0)) (all_lines axis.Row m))
content_of shape.PackedOne globals order m = One (map (leaf_on axis.Row m.cols) m.entries)
content_of shape.ListOne globals order m = One (map (leaf_on axis.Row m.cols) m.entries)
content_of (shape.DenseDense outer) globals order m = Two (map (full_line outer m) (all_lines outer m))
content_of (shape.DensePacked outer) globals order m = Two (lines_of outer m (all_lines outer m))
content_of (shape.PackedPacked outer) globals order m = Two (lines_of outer m (filled_lines outer m))
content_of shape.ListTwo globals order m = One (map (leaf_on axis.Both m.cols) m.entries)
content_of shape.Jagged globals order m = Two (lines_of axis.Row m (rows_by_count m))
content_of (shape.Diagonal offsets) globals order m = Two (map (diagonal_line offsets globals m) (all_lines axis.Row m))
content_of (shape.Permute file) globals order m = Two (lines_of axis.Row m (local_rows globals order))
