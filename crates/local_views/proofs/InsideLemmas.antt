-- What a format lists of a part lies in the part: each index below the extent of its axis.
use Rattle.std.proofs.Common.{◌≡◌, ℕ, ◌+◌, ◌*◌, ◌<◌, ◌==◌, true, List, [], ◌∷◌, length, map, get_or, Option, None, Some, ℤ, pos, negsuc, ◌+ℤ◌, refl, subst, arith}
use Rattle.std.specs.Prelude.{nat_lt, ◌-◌, slice_index}
use Rattle.std.specs.List.{All, cons_option, flat_map, position, range_with_len}
use Rattle.std.proofs.Math.Nat.{mul_comm}
use Rattle.std.proofs.lemmas.Bool.{ltb-true}
use Rattle.std.proofs.lemmas.List.Elements.{All-append, All-cons, All-filter, All-map, All-nil, All-weaker, filter_passes}
use Rattle.std.proofs.lemmas.List.FromFn.{get_or-range_with_len, length-range_with_len}
use Rattle.std.proofs.lemmas.List.Quantifiers.{position-Some}
use Rattle.std.proofs.lemmas.Nat.{mul-add-lt}
use Rattle.bern_base.specs.Matrix.{IsInside, IsMatrix}
use Rattle.bern_base.specs.declared.axes.Axis.{Axis}
use Rattle.bern_base.specs.declared.axes.Axis.TheVariants as axis
use Rattle.bern_base.specs.declared.matrix.Entry.{Entry}
use Rattle.bern_base.specs.declared.matrix.Matrix.{Matrix}
use Rattle.bern_base.specs.declared.shape.Shape.{Shape}
use Rattle.bern_base.specs.declared.shape.Shape.TheVariants as shape
use Rattle.format_model.specs.Axes.{across, extent_of, index_of, value_on}
use Rattle.format_model.specs.Content.{Content, One, Two, all_lines, columns_of, content_of, count_in_row, diagonal_columns, filled_lines, in_line, is_filled, leaf_on, lines_of, local_rows, rows_by_count, rows_with}
use Rattle.format_model.specs.Laws.{Suits}
use Rattle.format_model.specs.Levels.{Level, level_at, levels_of}

-- ---- lists of indices

range_inside : (n : ℕ) → All (λ k. k < n) (range_with_len 0 n)
range_inside n k d low = let at : k < n = omega (arith, low, length-range_with_len 0 n) in omega (arith, at, get_or-range_with_len 0 n k d at)

all_flat_map : {X Y : Type 0} (P : Y → Type 0) (f : X → List Y) → ((x : X) → All P (f x)) → (xs : List X) → All P (flat_map f xs)
all_flat_map P f each [] = All-nil P
all_flat_map P f each (x ∷ xs) = All-append P (f x) (flat_map f xs) (each x) (all_flat_map P f each xs)

-- indices with what stands at them
with_inside : {X : Type 0} (n : ℕ) (f : ℕ → X) (xs : List ℕ) → All (λ k. k < n) xs → All {X = ℕ × X} (λ l. l.0 < n) (map (λ k. (k, f k)) xs)
with_inside n f xs all = All-map (λ l. l.0 < n) (λ k. (k, f k)) xs all

counts_inside : (m : Matrix) → All (λ r. r < m.rows) (rows_by_count m)
counts_inside m =
    all_flat_map (λ r. r < m.rows) (λ k. rows_with m (length m.entries - k)) (λ k. All-filter (λ row. count_in_row m row == length m.entries - k) (λ r. r < m.rows) (all_lines axis.Row m) (range_inside m.rows)) (range_with_len 0 (length m.entries + 1))

some_inside : (n : ℕ) (o : Option ℕ) (rest : List ℕ) → ((k : ℕ) → o ≡ Some k → k < n) → All (λ r. r < n) rest → All (λ r. r < n) (cons_option o rest)
some_inside n None rest found all = all
some_inside n (Some k) rest found all = All-cons (λ r. r < n) k rest (found k refl) all

locals_inside : (globals order : List ℕ) → All (λ r. r < length globals) (local_rows globals order)
locals_inside globals [] = All-nil (λ r. r < length globals)
locals_inside globals (row ∷ order) =
    some_inside (length globals) (position (λ g. g == row) globals) (local_rows globals order) (λ k found. (position-Some (λ g. g == row) globals k 0 found).0) (locals_inside globals order)

column_inside : (cols : ℕ) (z : ℤ) → All (λ c. c < cols) (columns_of cols z)
column_inside cols (pos col) = All-weaker (λ c. nat_lt c cols ≡ true) (λ c. c < cols) (λ c passes. ltb-true c cols passes) (columns_of cols (pos col)) (filter_passes (λ c. nat_lt c cols) (col ∷ []))
column_inside cols (negsuc n) = All-nil (λ c. c < cols)

diagonals_inside : (cols row : ℕ) (offsets : List ℤ) → All (λ c. c < cols) (diagonal_columns cols offsets row)
diagonals_inside cols row offsets = all_flat_map (λ c. c < cols) (λ offset. columns_of cols (pos row +ℤ offset)) (λ offset. column_inside cols (pos row +ℤ offset)) offsets

-- ---- entries

entry_inside : (a : Axis) (m : Matrix) (e : Entry) → IsInside m.rows m.cols e → index_of a m.cols e < extent_of a m.rows m.cols
entry_inside axis.Row m e inside = inside.0
entry_inside axis.Col m e inside = inside.1
entry_inside axis.Both m e inside = subst (λ n. e.row * m.cols + e.col < n) (mul_comm m.cols m.rows) (mul-add-lt e.row m.cols e.col m.rows inside.0 inside.1)

leaves_inside : (a : Axis) (m : Matrix) → IsMatrix m → All (λ l. l.0 < extent_of a m.rows m.cols) (map (leaf_on a m.cols) m.entries)
leaves_inside a m is =
    All-map (λ l. l.0 < extent_of a m.rows m.cols) (leaf_on a m.cols) m.entries
    (All-weaker (IsInside m.rows m.cols) (λ e. index_of a m.cols e < extent_of a m.rows m.cols) (entry_inside a m) m.entries is.inside)

line_inside : (a b : Axis) (m : Matrix) (line : ℕ) → IsMatrix m → All (λ l. l.0 < extent_of b m.rows m.cols) (map (leaf_on b m.cols) (in_line a m.cols line m.entries))
line_inside a b m line is =
    All-map (λ l. l.0 < extent_of b m.rows m.cols) (leaf_on b m.cols) (in_line a m.cols line m.entries)
    (All-weaker (IsInside m.rows m.cols) (λ e. index_of b m.cols e < extent_of b m.rows m.cols) (entry_inside b m) (in_line a m.cols line m.entries)
    (All-filter (λ e. index_of a m.cols e == line) (IsInside m.rows m.cols) m.entries is.inside))

-- ---- what a format lists

-- lines and what stands in them
abbrev pub LinesInside : ℕ → ℕ → List (ℕ × List (ℕ × ℕ)) → Type 0
LinesInside outer inner lines = All (λ l. l.0 < outer) lines × All (λ l. All (λ i. i.0 < inner) l.1) lines

abbrev pub AreInside : List Level → Matrix → Content → Type 0
AreInside levels m (One leaves) = All (λ l. l.0 < extent_of (level_at levels 0).axis m.rows m.cols) leaves
AreInside levels m (Two lines) = LinesInside (extent_of (level_at levels 0).axis m.rows m.cols) (extent_of (level_at levels 1).axis m.rows m.cols) lines

made_lines : (outer inner : ℕ) (f : ℕ → List (ℕ × ℕ)) (lines : List ℕ) → All (λ k. k < outer) lines → ((k : ℕ) → All (λ i. i.0 < inner) (f k)) → LinesInside outer inner (map (λ k. (k, f k)) lines)
made_lines outer inner f lines all each =
    (with_inside outer f lines all, All-map (λ l. All (λ i. i.0 < inner) l.1) (λ k. (k, f k)) lines (λ k d low. each (get_or lines k d)))

entry_lines : (a : Axis) (m : Matrix) (lines : List ℕ) → IsMatrix m → All (λ k. k < extent_of a m.rows m.cols) lines → LinesInside (extent_of a m.rows m.cols) (extent_of (across a) m.rows m.cols) (lines_of a m lines)
entry_lines a m lines is all =
    made_lines (extent_of a m.rows m.cols) (extent_of (across a) m.rows m.cols) (λ l. map (leaf_on (across a) m.cols) (in_line a m.cols l m.entries)) lines all (λ l. line_inside a (across a) m l is)

pub indices_inside : (s : Shape) (globals order : List ℕ) (m : Matrix) → IsMatrix m → Suits s globals order m → AreInside (levels_of s) m (content_of s globals order m)
indices_inside shape.DenseOne globals order m is suits = with_inside m.rows (λ row. value_on axis.Row m row 0) (all_lines axis.Row m) (range_inside m.rows)
indices_inside shape.PackedOne globals order m is suits = leaves_inside axis.Row m is
indices_inside shape.ListOne globals order m is suits = leaves_inside axis.Row m is
indices_inside (shape.DenseDense outer) globals order m is suits =
    made_lines (extent_of outer m.rows m.cols) (extent_of (across outer) m.rows m.cols) (λ line. map (λ i. (i, value_on outer m line i)) (all_lines (across outer) m)) (all_lines outer m) (range_inside (extent_of outer m.rows m.cols))
    (λ line. with_inside (extent_of (across outer) m.rows m.cols) (value_on outer m line) (all_lines (across outer) m) (range_inside (extent_of (across outer) m.rows m.cols)))
indices_inside (shape.DensePacked outer) globals order m is suits = entry_lines outer m (all_lines outer m) is (range_inside (extent_of outer m.rows m.cols))
indices_inside (shape.PackedPacked outer) globals order m is suits =
    entry_lines outer m (filled_lines outer m) is (All-filter (is_filled outer m.cols m.entries) (λ k. k < extent_of outer m.rows m.cols) (all_lines outer m) (range_inside (extent_of outer m.rows m.cols)))
indices_inside shape.ListTwo globals order m is suits = leaves_inside axis.Both m is
indices_inside shape.Jagged globals order m is suits = entry_lines axis.Row m (rows_by_count m) is (counts_inside m)
indices_inside (shape.Diagonal offsets) globals order m is suits =
    made_lines m.rows m.cols (λ row. map (λ col. (col, value_on axis.Row m row col)) (diagonal_columns m.cols offsets (slice_index globals row))) (all_lines axis.Row m) (range_inside m.rows)
    (λ row. with_inside m.cols (value_on axis.Row m row) (diagonal_columns m.cols offsets (slice_index globals row)) (diagonals_inside m.cols (slice_index globals row) offsets))
indices_inside (shape.Permute file) globals order m is suits =
    entry_lines axis.Row m (local_rows globals order) is (subst (λ n. All (λ r. r < n) (local_rows globals order)) suits.1.long (locals_inside globals order))
