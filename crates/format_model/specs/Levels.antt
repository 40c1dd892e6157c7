-- The levels of each format, the outer one first: on which axis their indices lie, whether they rise, and how one is looked up.
use Rattle.std.specs.Prelude.{ℕ, zero, suc, ◌/◌, ◌==◌, Bool, true, false, if◌then◌else◌, List, [], ◌∷◌, slice_index_or}
use Rattle.bern_base.specs.declared.axes.Axis.{Axis}
use Rattle.bern_base.specs.declared.axes.Axis.TheVariants as axis
use Rattle.bern_base.specs.declared.shape.Shape.{Shape}
use Rattle.bern_base.specs.declared.shape.Shape.TheVariants as shape
use Rattle.format_model.specs.Axes.{across}

-- an index is found at its place, by halving, or one child after another from the first
pub data Lookup : Type 0 where
  Direct : Lookup
  Binary : Lookup
  Linear : Lookup

-- `most` halvings are enough for n
abbrev pub digits : ℕ → ℕ → ℕ
digits zero n = 0
digits (suc most) n = if n == 0 then 0 else suc (digits most (n / 2))

-- how many binary digits a number has: 0 has none, and 4 has three
unfoldable pub bits : ℕ → ℕ
bits n = digits n n

-- the most steps of one look-up below a parent with so many children
abbrev pub steps_of : Lookup → ℕ → ℕ
steps_of Direct count = 1
steps_of Binary count = bits count
steps_of Linear count = count

pub record Level : Type 0 where
  pub axis : Axis
  pub ordered : Bool
  pub lookup : Lookup

-- a level that has every index of its axis, rising
abbrev pub dense_level : Axis → Level
dense_level a = record { axis = a; ordered = true; lookup = Direct }

-- a level that has some indices of its axis, rising
abbrev pub packed_level : Axis → Level
packed_level a = record { axis = a; ordered = true; lookup = Binary }

-- a level that has some indices of its axis in any order
abbrev pub list_level : Axis → Level
list_level a = record { axis = a; ordered = false; lookup = Linear }

-- a level that has every row once, in an order of its own
abbrev pub arranged_level : Level
arranged_level = record { axis = axis.Row; ordered = false; lookup = Direct }

-- the table of the levels
abbrev pub levels_of : Shape → List Level
levels_of shape.DenseOne = dense_level axis.Row ∷ []
levels_of shape.PackedOne = packed_level axis.Row ∷ []
levels_of shape.ListOne = list_level axis.Row ∷ []
levels_of (shape.DenseDense outer) = dense_level outer ∷ dense_level (across outer) ∷ []
levels_of (shape.DensePacked outer) = dense_level outer ∷ packed_level (across outer) ∷ []
levels_of (shape.PackedPacked outer) = packed_level outer ∷ packed_level (across outer) ∷ []
levels_of shape.ListTwo = list_level axis.Both ∷ []
levels_of shape.Jagged = arranged_level ∷ packed_level axis.Col ∷ []
levels_of (shape.Diagonal offsets) = dense_level axis.Row ∷ packed_level axis.Col ∷ []
levels_of (shape.Permute file) = arranged_level ∷ packed_level axis.Col ∷ []

-- what stands for a level that is not there
abbrev pub no_level : Level
no_level = record { axis = axis.Both; ordered = false; lookup = Linear }

abbrev pub level_at : List Level → ℕ → Level
level_at levels l = slice_index_or levels l no_level
