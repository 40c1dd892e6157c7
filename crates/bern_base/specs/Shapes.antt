-- What the levels of a format say of an array.
use Rattle.std.specs.Prelude.{ℕ, Bool, true, false, not}
use Rattle.bern_base.specs.declared.shape.Shape.{Shape}
use Rattle.bern_base.specs.declared.shape.Shape.TheVariants as shape

-- how many extents an array of the shape has
abbrev pub dims_of : Shape → ℕ
dims_of shape.DenseOne = 1
dims_of shape.PackedOne = 1
dims_of shape.ListOne = 1
dims_of other = 2

-- all levels are dense, so every element is stored
abbrev pub is_all_dense : Shape → Bool
is_all_dense shape.DenseOne = true
is_all_dense (shape.DenseDense outer) = true
is_all_dense other = false

-- some element may be left out
abbrev pub is_sparse : Shape → Bool
is_sparse shape = not (is_all_dense shape)

-- only rows can be dealt: the shape has an order of its own, or is stored around its rows
abbrev pub is_by_row : Shape → Bool
is_by_row shape.Jagged = true
is_by_row (shape.Diagonal offsets) = true
is_by_row (shape.Permute file) = true
is_by_row other = false
