-- The matrix of all that counts: an element for which anything counts has an entry, with the sum modulo 2^64.
use Rattle.std.specs.Prelude.{ℕ, ◌*◌, ◌/◌, ◌%◌, Bool, ◌==◌, List, map, filter}
use Rattle.std.specs.List.{list_any, range_with_len}
use Rattle.bern_base.specs.declared.matrix.Entry.{Entry}
use Rattle.bern_base.specs.declared.matrix.Matrix.{Matrix}
use Rattle.bern_base.specs.Matrix.{number, element}
use Rattle.mm_profile.specs.declared.sizes.Head.{Head}

abbrev pub occurs : ℕ → List Entry → ℕ → Bool
occurs cols counted n = list_any (λ e. number cols e == n) counted

-- the entry of an element number
abbrev pub summed : ℕ → List Entry → ℕ → Entry
summed cols counted n = record { row = n / cols; col = n % cols; value = element cols counted n }

-- of all element numbers, rising, those for which anything counts
abbrev pub sums : ℕ → ℕ → List Entry → List Entry
sums rows cols counted = map (summed cols counted) (filter (occurs cols counted) (range_with_len 0 (rows * cols)))

abbrev pub matrix_of : Head → List Entry → Matrix
matrix_of head counted = record { rows = head.rows; cols = head.cols; entries = sums head.rows head.cols counted }
