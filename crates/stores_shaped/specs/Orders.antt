-- Orders of rows, and their inverses.
use Rattle.std.specs.Prelude.{◌≡◌, ℕ, ◌<◌, List, length, slice_index}
use Rattle.std.specs.List.{range_with_len}
use Rattle.std.specs.List.Sorted.{IsPermutation}

-- a list has each number below its length once
abbrev pub IsOrder : List ℕ → Type 0
IsOrder order = IsPermutation (range_with_len 0 (length order)) order

-- two lists of one length undo each other: the one has at each place a row, and the other has for each row its place
pub record IsInverse (order inverse : List ℕ) : Type 0 where
  pub long : length inverse ≡ length order
  pub rows : (place : ℕ) → place < length order → slice_index order place < length order
  pub places : (row : ℕ) → row < length order → slice_index inverse row < length order
  pub place_of_row : (place : ℕ) → place < length order → slice_index inverse (slice_index order place) ≡ place
  pub row_at_place : (row : ℕ) → row < length order → slice_index order (slice_index inverse row) ≡ row
