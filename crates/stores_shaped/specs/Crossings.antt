-- How the elements on diagonals are found: which diagonals a row crosses, and which entries have been passed.
use Rattle.std.specs.Prelude.{◌≡◌, ℕ, ◌+◌, ◌-◌, ◌<◌, ◌≤◌, List, length, map, slice_index, take, drop, ℤ, pos, ◌+ℤ◌, ◌<ℤ◌, ◌≤ℤ◌}
use Rattle.std.specs.List.{All, AllPairs, flat_map, range_with_len}
use Rattle.bern_base.specs.Matrix.{number}
use Rattle.bern_base.specs.declared.axes.Axis.TheVariants as axis
use Rattle.format_model.specs.Axes.{value_on}
use Rattle.bern_base.specs.declared.matrix.Matrix.{Matrix}
use Rattle.stores_shaped.specs.Diagonals.{IsWindow, column_on, diagonal_count, offset_at}

-- for each of the first rows, the first diagonal that it crosses, and where its elements begin
pub record AreWindows (cols : ℕ) (offsets : List ℤ) (globals : List ℕ) (rows : ℕ) (firsts starts : List ℕ) : Type 0 where
  pub firsts_long : length firsts ≡ rows
  pub starts_long : length starts ≡ rows + 1
  pub begin : slice_index starts 0 ≡ 0
  pub order : (row : ℕ) → row < rows → slice_index starts row ≤ slice_index starts (row + 1)
  pub windows : (row : ℕ) → row < rows →
      IsWindow cols offsets (slice_index globals row) (slice_index firsts row) (slice_index starts (row + 1) - slice_index starts row)
  pub total : slice_index starts rows ≡ diagonal_count cols offsets (take rows globals)

-- a row of the array crosses each of these diagonals in the matrix
pub record Crosses (cols global : ℕ) (offsets : List ℤ) : Type 0 where
  pub rise : AllPairs (λ a b. a <ℤ b) offsets
  pub low : All (λ offset. pos 0 ≤ℤ (pos global +ℤ offset)) offsets
  pub high : All (λ offset. (pos global +ℤ offset) <ℤ pos cols) offsets

-- the first entries, so many, stand before the element of a number
pub record IsSeen (m : Matrix) (n at : ℕ) : Type 0 where
  pub within : at ≤ length m.entries
  pub before : (k : ℕ) → k < at → slice_index (map (number m.cols) m.entries) k < n

-- the diagonals that a row crosses
abbrev pub crossed : List ℤ → List ℕ → List ℕ → ℕ → List ℤ
crossed offsets firsts starts row = take (slice_index starts (row + 1) - slice_index starts row) (drop (slice_index firsts row) offsets)

-- the values of a row on them
abbrev pub row_values : Matrix → List ℤ → List ℕ → List ℕ → List ℕ → ℕ → List ℕ
row_values m offsets globals firsts starts row =
    map (λ offset. value_on axis.Row m row (column_on (slice_index globals row) offset)) (crossed offsets firsts starts row)

-- row after row
abbrev pub HasValues : Matrix → List ℤ → List ℕ → List ℕ → List ℕ → List ℕ → Type 0
HasValues m offsets globals firsts starts values = values ≡ flat_map (row_values m offsets globals firsts starts) (range_with_len 0 (length globals))

-- so many of the offsets, from the first on, lie below a bound
pub record IsBelow (offsets : List ℤ) (bound : ℤ) (n : ℕ) : Type 0 where
  pub within : n ≤ length offsets
  pub before : (k : ℕ) → k < n → offset_at offsets k <ℤ bound
  pub after : (k : ℕ) → n ≤ k → k < length offsets → bound ≤ℤ offset_at offsets k
