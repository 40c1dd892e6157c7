-- What an array weighs in its format whatever is read: all elements of a dense format and of the listed diagonals, and the lines of
-- formats that have some for all rows or columns.
use Rattle.std.specs.Prelude.{ℕ, ◌*◌, Bool, false, if◌then◌else◌, nat_lt, ℤ, pos, negsuc, ◌+ℤ◌}
use Rattle.std.specs.List.{count_by, range_with_len, sum_by}
use Rattle.bern_base.specs.declared.axes.Axis.{Axis}
use Rattle.bern_base.specs.declared.job.ArrayDecl.{ArrayDecl}
use Rattle.bern_base.specs.declared.shape.Shape.{Shape}
use Rattle.bern_base.specs.declared.shape.Shape.TheVariants as shape
use Rattle.format_model.specs.Axes.{extent_of, same_axis}

abbrev pub extent_on : Axis → ArrayDecl → ℕ
extent_on a array = extent_of a array.rows array.cols

-- the lines of a dense outer level above a packed one: an array that is split along the packed axis has each line once at each rank
abbrev pub lines_weight : Axis → ℕ → ArrayDecl → ℕ
lines_weight outer ranks array = if same_axis array.axis outer then extent_on outer array else extent_on outer array * ranks

abbrev pub is_column : ℕ → ℤ → Bool
is_column cols (pos col) = nat_lt col cols
is_column cols (negsuc n) = false

-- how many elements lie on the diagonal of this offset, which is column minus row: one for each row in which that is a column
abbrev pub diagonal_len : ℕ → ℕ → ℤ → ℕ
diagonal_len rows cols offset = count_by (λ row. is_column cols (pos row +ℤ offset)) (range_with_len 0 rows)

-- the table of the weights without entries, on so many ranks
abbrev pub shape_weight : Shape → ℕ → ArrayDecl → ℕ
shape_weight shape.DenseOne ranks array = array.rows * array.cols
shape_weight shape.PackedOne ranks array = 0
shape_weight shape.ListOne ranks array = 0
shape_weight (shape.DenseDense outer) ranks array = array.rows * array.cols
shape_weight (shape.DensePacked outer) ranks array = lines_weight outer ranks array
shape_weight (shape.PackedPacked outer) ranks array = 0
shape_weight shape.ListTwo ranks array = 0
shape_weight shape.Jagged ranks array = array.rows
shape_weight (shape.Diagonal offsets) ranks array = sum_by (diagonal_len array.rows array.cols) offsets
shape_weight (shape.Permute file) ranks array = array.rows
