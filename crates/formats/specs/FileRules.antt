-- What a file's matrix has to be for its use: without values off the listed diagonals, and the order of the rows of a permute format.
use Rattle.std.specs.Prelude.{ℕ, ◌+◌, ◌-◌, Bool, ◌==◌, if◌then◌else◌, List, map, ℤ, Option, Some, None}
use Rattle.std.specs.List.{count_by, list_all, list_any, range_with_len}
use Rattle.bern_base.specs.Matrix.{values_of}
use Rattle.bern_base.specs.declared.matrix.Matrix.{Matrix}
use Rattle.bern_base.specs.declared.refusal.Rule.{Rule}
use Rattle.bern_base.specs.declared.refusal.Rule.TheVariants.{F2, F3}
use Rattle.format_model.specs.Checks.{first_of, is_astray, sizes_rule}

-- rule F2 for these offsets: no entry off their diagonals has a value that is not 0
abbrev pub diagonals_rule : List ℤ → Matrix → Option Rule
diagonals_rule offsets m = if list_any (is_astray offsets) m.entries then Some F2 else None

-- a row, numbered from 0, is listed at exactly one position by these values, which number rows from 1
abbrev pub is_listed_once : List ℕ → ℕ → Bool
is_listed_once values row = count_by (λ v. v == row + 1) values == 1

-- each of so many rows is
abbrev pub lists_each_row : ℕ → List ℕ → Bool
lists_each_row rows values = list_all (is_listed_once values) (range_with_len 0 rows)

-- rule F3: the values of all positions, 0 where there is no entry, are each of 1 to rows once
abbrev pub listing_rule : ℕ → List ℕ → Option Rule
listing_rule rows values = if lists_each_row rows values then None else Some F3

-- the first rule that a matrix breaks as the order of so many rows: it has one column of so many values, and lists each row once
abbrev pub order_rule : ℕ → Matrix → Option Rule
order_rule rows m = first_of (sizes_rule rows 1 m) (listing_rule rows (values_of m))

-- the rows in the order of a list that numbers them from 1, numbered from 0
abbrev pub order_in : List ℕ → List ℕ
order_in values = map (λ v. v - 1) values
