-- Which elements of a matrix each format stores, and with which values.
use Rattle.std.specs.Prelude.{ℕ, ◌*◌, ◌/◌, ◌%◌, ◌==◌, Bool, true, ◌&&◌, List, map, slice_index, ℤ, pos, ◌-ℤ◌}
use Rattle.std.specs.List.{filter, list_any, range_with_len}
use Rattle.std.specs.Ordering.{int_eq}
use Rattle.bern_base.specs.Matrix.{element}
use Rattle.bern_base.specs.declared.matrix.Entry.{Entry}
use Rattle.bern_base.specs.declared.matrix.Matrix.{Matrix}
use Rattle.bern_base.specs.declared.shape.Shape.{Shape}
use Rattle.bern_base.specs.declared.shape.Shape.TheVariants as shape

-- an entry stands at this row and column
abbrev pub stands_at : ℕ → ℕ → Entry → Bool
stands_at row col e = e.row == row && e.col == col

abbrev pub has_entry_at : List Entry → ℕ → ℕ → Bool
has_entry_at entries row col = list_any (stands_at row col) entries

-- the diagonal of an offset has the elements whose column minus their row is the offset
abbrev pub is_on_diagonal : List ℤ → ℕ → ℕ → Bool
is_on_diagonal offsets row col = list_any (int_eq (pos col -ℤ pos row)) offsets

-- a whole matrix has this element stored: all are where all levels are dense, those on the listed diagonals of a diagonal format,
-- and elsewhere those that have an entry
abbrev pub is_stored : Shape → List Entry → ℕ → ℕ → Bool
is_stored shape.DenseOne entries row col = true
is_stored (shape.DenseDense outer) entries row col = true
is_stored (shape.Diagonal offsets) entries row col = is_on_diagonal offsets row col
is_stored other entries row col = has_entry_at entries row col

-- an element of a matrix by its number, with its value; 0 where it has no entry
abbrev pub element_at : Matrix → ℕ → Entry
element_at m n = record { row = n / m.cols; col = n % m.cols; value = element m.cols m.entries n }

-- all elements, by element number
abbrev pub all_elements : Matrix → List Entry
all_elements m = map (element_at m) (range_with_len 0 (m.rows * m.cols))

-- the stored elements of a part whose local row r is the row globals[r] of the array, with their values
abbrev pub stored_elements : Shape → List ℕ → Matrix → List Entry
stored_elements shape.DenseOne globals m = all_elements m
stored_elements (shape.DenseDense outer) globals m = all_elements m
stored_elements (shape.Diagonal offsets) globals m = filter (λ e. is_on_diagonal offsets (slice_index globals e.row) e.col) (all_elements m)
stored_elements other globals m = m.entries
