-- A store of the elements on listed diagonals, row by row.
use Rattle.std.specs.Prelude.{◌≡◌, ℕ, zero, suc, ◌+◌, ◌-◌, ◌^◌, ◌<◌, ◌≤◌, List, length, slice_index, slice_index_or, ℤ, pos, negsuc, ◌+ℤ◌, ◌<ℤ◌, ◌≤ℤ◌}
use Rattle.std.specs.List.{All, AllPairs, sum_by}
use Rattle.bern_base.specs.declared.limits.TheConstants.{MOST_OFFSET}
use Rattle.bern_base.specs.declared.shape.Shape.TheVariants as shape
use Rattle.format_model.specs.Content.{diagonal_columns}
use Rattle.format_model.specs.Levels.{levels_of}
use Rattle.format_model.specs.Trees.{Tree}
use Rattle.stores_packed.specs.Packed.{placed}

-- a whole number that is not negative, as an index
abbrev pub index_of_int : ℤ → ℕ
index_of_int (pos n) = n
index_of_int (negsuc n) = 0

-- the column in which a row of the array crosses the diagonal of an offset
abbrev pub column_on : ℕ → ℤ → ℕ
column_on global offset = index_of_int (pos global +ℤ offset)

abbrev pub offset_at : List ℤ → ℕ → ℤ
offset_at offsets k = slice_index_or offsets k (pos 0)

-- an offset is at most MOST_OFFSET to either side
abbrev pub IsOffset : ℤ → Type 0
IsOffset offset = (pos 0 ≤ℤ (offset +ℤ pos MOST_OFFSET)) × (offset ≤ℤ pos MOST_OFFSET)

-- how many elements these rows of the array have on the listed diagonals
abbrev pub diagonal_count : ℕ → List ℤ → List ℕ → ℕ
diagonal_count cols offsets globals = sum_by (λ global. length (diagonal_columns cols offsets global)) globals

-- the diagonals that a row crosses: so many from the first one on; those before lie left of the matrix, those after right of it
pub record IsWindow (cols : ℕ) (offsets : List ℤ) (global first count : ℕ) : Type 0 where
  pub within : first + count ≤ length offsets
  pub before : (k : ℕ) → k < first → (pos global +ℤ offset_at offsets k) <ℤ pos 0
  pub low : (k : ℕ) → first ≤ k → k < first + count → pos 0 ≤ℤ (pos global +ℤ offset_at offsets k)
  pub high : (k : ℕ) → first ≤ k → k < first + count → (pos global +ℤ offset_at offsets k) <ℤ pos cols
  pub after : (k : ℕ) → first + count ≤ k → k < length offsets → pos cols ≤ℤ (pos global +ℤ offset_at offsets k)

-- the column of a place in the line of a row
abbrev pub diagonal_index : List ℤ → List ℕ → List ℕ → List ℕ → ℕ → ℕ → ℕ
diagonal_index offsets globals firsts starts row place =
    column_on (slice_index globals row) (offset_at offsets (slice_index firsts row + (place - slice_index starts row)))

abbrev pub diagonal_nodes : ℕ → ℕ → ℕ → ℕ
diagonal_nodes rows leaves zero = 1
diagonal_nodes rows leaves (suc zero) = rows
diagonal_nodes rows leaves (suc (suc level)) = leaves

abbrev pub diagonal_start : List ℕ → ℕ → ℕ → ℕ
diagonal_start starts zero parent = 0
diagonal_start starts (suc level) parent = slice_index starts parent

abbrev pub diagonal_children : List ℤ → List ℕ → List ℕ → List ℕ → ℕ → ℕ → List (ℕ × ℕ)
diagonal_children offsets globals firsts starts zero parent = placed (λ k. k) 0 (length globals)
diagonal_children offsets globals firsts starts (suc level) parent =
    placed (diagonal_index offsets globals firsts starts parent) (slice_index starts parent) (slice_index starts (parent + 1) - slice_index starts parent)

abbrev pub diagonal_tree : List ℤ → List ℕ → List ℕ → List ℕ → List ℕ → Tree
diagonal_tree offsets globals firsts starts values = record {
  levels = levels_of (shape.Diagonal offsets);
  nodes = diagonal_nodes (length globals) (length values);
  start = diagonal_start starts;
  children = diagonal_children offsets globals firsts starts;
  value = slice_index values;
}

-- what holds of the arrays of each diagonal store
pub record IsDiagonal (cols : ℕ) (offsets : List ℤ) (globals firsts starts values : List ℕ) : Type 0 where
  pub rise : AllPairs (λ a b. a <ℤ b) offsets
  pub small : All IsOffset offsets
  pub narrow : cols < 2 ^ 32
  pub few : length globals < 2 ^ 32
  pub firsts_long : length firsts ≡ length globals
  pub starts_long : length starts ≡ length globals + 1
  pub order : (row : ℕ) → row < length globals → slice_index starts row ≤ slice_index starts (row + 1)
  pub within : (row : ℕ) → row < length globals → slice_index starts (row + 1) ≤ length values
  pub windows : (row : ℕ) → row < length globals →
      IsWindow cols offsets (slice_index globals row) (slice_index firsts row) (slice_index starts (row + 1) - slice_index starts row)
