-- Which entry lines are due: one for each place.
use Rattle.std.specs.Prelude.{ℕ, ◌+◌, ◌-◌, List, map, replicate}
use Rattle.std.specs.List.{flat_map, range_with_len}
use Rattle.mm_profile.specs.declared.kinds.Format.{Format}
use Rattle.mm_profile.specs.declared.kinds.Format.TheVariants.{Coordinate, Array}
use Rattle.mm_profile.specs.declared.kinds.Symmetry.{Symmetry}
use Rattle.mm_profile.specs.declared.kinds.Symmetry.TheVariants.{General, Symmetric, Skew}
use Rattle.mm_profile.specs.declared.sizes.Head.{Head}

-- a place that its line names, or the element at a row and a column, from 0
pub data Place : Type 0 where
  Stated : Place
  At : ℕ → ℕ → Place

-- an array file lists all rows of a column, or those of the lower triangle, or those below the diagonal
abbrev pub first_row : Symmetry → ℕ → ℕ
first_row General col = 0
first_row Symmetric col = col
first_row Skew col = col + 1

-- the places of a column from a row on
abbrev pub column_from : ℕ → ℕ → ℕ → List Place
column_from rows row col = map (λ r. At r col) (range_with_len row (rows - row))

-- those of so many columns from a column on
abbrev pub columns : Head → ℕ → ℕ → List Place
columns head col count = flat_map (λ k. column_from head.rows (first_row head.kind.symmetry k) k) (range_with_len col count)

abbrev pub places_of : Format → Head → List Place
places_of Coordinate head = replicate head.stated Stated
places_of Array head = columns head 0 head.cols

abbrev pub places : Head → List Place
places head = places_of head.kind.format head
