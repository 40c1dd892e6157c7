-- The law on printing and reading: a printed array is read back, every element with its value.
use Rattle.std.specs.Prelude.{◌≡◌, ℕ, ◌*◌, ◌/◌, ◌%◌, ◌^◌, ◌<◌, ◌≤◌, false, List, length, map, slice_index, Ok}
use Rattle.std.specs.List.{list_any, range_with_len}
use Rattle.bern_base.specs.declared.limits.TheConstants.{MOST_FILE_BYTES, MOST_SIDE, MOST_ENTRIES}
use Rattle.bern_base.specs.declared.matrix.Entry.{Entry}
use Rattle.bern_base.specs.declared.matrix.Matrix.{Matrix}
use Rattle.mm_profile.specs.ArrayText.{array_text}
use Rattle.mm_profile.specs.Lines.{is_line_feed}
use Rattle.mm_profile.specs.Profile.{mm}

-- the element with this number, and its value
abbrev pub dense_entry : ℕ → List ℕ → ℕ → Entry
dense_entry cols values n = record { row = n / cols; col = n % cols; value = slice_index values n }

-- the matrix in which each element has an entry
abbrev pub dense_matrix : ℕ → ℕ → List ℕ → Matrix
dense_matrix rows cols values =
    record { rows = rows; cols = cols; entries = map (dense_entry cols values) (range_with_len 0 (rows * cols)) }

-- the sizes and the length are within the limits of files, and the name does not end its line
abbrev pub ReadsPrintedArrays : Type 0
ReadsPrintedArrays = (name values : List ℕ) (rows cols : ℕ) → list_any is_line_feed name ≡ false
    → rows ≤ MOST_SIDE → cols ≤ MOST_SIDE → rows * cols ≤ MOST_ENTRIES
    → ((n : ℕ) → slice_index values n < 2 ^ 64)
    → length (array_text name rows cols values) ≤ MOST_FILE_BYTES
    → mm (array_text name rows cols values) ≡ Ok (dense_matrix rows cols values)
