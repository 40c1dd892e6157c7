-- Matrices by their entries.
use Rattle.std.specs.Prelude.{ℕ, ◌+◌, ◌*◌, ◌%◌, ◌^◌, ◌<◌, ◌==◌, if◌then◌else◌, List, map}
use Rattle.std.specs.List.{All, range_with_len, sum_by}
use Rattle.std.specs.List.Sorted.{IsStrictlyIncreasing}
use Rattle.bern_base.specs.declared.matrix.Entry.{Entry}
use Rattle.bern_base.specs.declared.matrix.Matrix.{Matrix}

-- the element number of an entry in a matrix with this many columns
abbrev pub number : ℕ → Entry → ℕ
number cols e = e.row * cols + e.col

abbrev pub IsInside : ℕ → ℕ → Entry → Type 0
IsInside rows cols e = (e.row < rows) × (e.col < cols)

-- each entry lies inside, and element numbers rise strictly: by row and then column, no element twice
pub record IsMatrix (m : Matrix) : Type 0 where
  pub inside : All (IsInside m.rows m.cols) m.entries
  pub rising : IsStrictlyIncreasing (map (number m.cols) m.entries)

-- the value of an element: the sum of all entries that stand there, modulo 2^64; 0 where there is none
abbrev pub element : ℕ → List Entry → ℕ → ℕ
element cols entries n = sum_by (λ e. if number cols e == n then e.value else 0) entries % 2 ^ 64

-- the values of all elements, by element number
abbrev pub matrix_values : ℕ → ℕ → List Entry → List ℕ
matrix_values rows cols entries = map (element cols entries) (range_with_len 0 (rows * cols))

abbrev pub values_of : Matrix → List ℕ
values_of m = matrix_values m.rows m.cols m.entries
