-- The printed text of an array: the array format of NIST's Matrix Market exchange formats, column by column.
use Rattle.std.specs.Prelude.{ℕ, ◌+◌, ◌*◌, List, ◌++◌, slice_index, codes, decimal}
use Rattle.std.specs.List.{flat_map, range_with_len}
use Rattle.std.specs.Fmt.{signed_decimal}
use Rattle.bern_base.specs.Ring.{signed_of}

-- a value by its representative from -2^63 to 2^63 - 1
abbrev pub value_line : ℕ → List ℕ
value_line v = signed_decimal (signed_of v) ++ codes "\n"

-- the values are by element number, which is row * cols + col
abbrev pub element_line : ℕ → List ℕ → ℕ → ℕ → List ℕ
element_line cols values col row = value_line (slice_index values (row * cols + col))

abbrev pub column_text : ℕ → ℕ → List ℕ → ℕ → List ℕ
column_text rows cols values col = flat_map (element_line cols values col) (range_with_len 0 rows)

abbrev pub sizes_line : ℕ → ℕ → List ℕ
sizes_line rows cols = decimal rows ++ codes " " ++ decimal cols ++ codes "\n"

abbrev pub array_head : List ℕ → ℕ → ℕ → List ℕ
array_head name rows cols = codes "%%MatrixMarket matrix array integer general\n% " ++ name ++ codes "\n" ++ sizes_line rows cols

abbrev pub array_text : List ℕ → ℕ → ℕ → List ℕ → List ℕ
array_text name rows cols values = array_head name rows cols ++ flat_map (column_text rows cols values) (range_with_len 0 cols)
