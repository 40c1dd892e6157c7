-- What each format lists of small matrices, computed.
use Rattle.std.proofs.Common.{◌≡◌, ℕ, true, false, List, [], ◌∷◌, map, pos, negsuc, codes, refl}
use Rattle.bern_base.specs.declared.axes.Axis.TheVariants as axis
use Rattle.bern_base.specs.declared.matrix.Entry.{Entry}
use Rattle.bern_base.specs.declared.matrix.Matrix.{Matrix}
use Rattle.bern_base.specs.declared.shape.Shape.{Shape}
use Rattle.bern_base.specs.declared.shape.Shape.TheVariants as shape
use Rattle.format_model.specs.Content.{content_of, One, Two, rows_by_count, diagonal_columns}
use Rattle.format_model.specs.Levels.{levels_of, Direct, Binary, Linear}
use Rattle.format_model.specs.Content.{content_of, One, Two, rows_by_count, diagonal_columns}
use Rattle.format_model.specs.Levels.{levels_of, Direct, Binary, Linear}

abbrev pub entry : ℕ → ℕ → ℕ → Entry
entry row col value = record { row = row; col = col; value = value }

--   . 2 1
--   . . .
--   . 5 .
abbrev pub matrix : Matrix
matrix = record { rows = 3; cols = 3; entries = entry 0 1 2 ∷ entry 0 2 1 ∷ entry 2 1 5 ∷ [] }

-- a vector of four with 7 at index 1 and 9 at index 3
abbrev pub vector : Matrix
vector = record { rows = 4; cols = 1; entries = entry 1 0 7 ∷ entry 3 0 9 ∷ [] }

abbrev pub whole : List ℕ
whole = 0 ∷ 1 ∷ 2 ∷ []

-- ---- one level

dense_vector : content_of shape.DenseOne whole [] vector ≡ One ((0, 0) ∷ (1, 7) ∷ (2, 0) ∷ (3, 9) ∷ [])
dense_vector = refl

packed_vector : content_of shape.PackedOne whole [] vector ≡ One ((1, 7) ∷ (3, 9) ∷ [])
packed_vector = refl

list_vector : content_of shape.ListOne whole [] vector ≡ One ((1, 7) ∷ (3, 9) ∷ [])
list_vector = refl

coordinates : content_of shape.ListTwo whole [] matrix ≡ One ((1, 2) ∷ (2, 1) ∷ (7, 5) ∷ [])
coordinates = refl

-- ---- dense > dense

dense_rows : content_of (shape.DenseDense axis.Row) whole [] matrix ≡
    Two ((0, (0, 0) ∷ (1, 2) ∷ (2, 1) ∷ []) ∷ (1, (0, 0) ∷ (1, 0) ∷ (2, 0) ∷ []) ∷ (2, (0, 0) ∷ (1, 5) ∷ (2, 0) ∷ []) ∷ [])
dense_rows = refl

dense_cols : content_of (shape.DenseDense axis.Col) whole [] matrix ≡
    Two ((0, (0, 0) ∷ (1, 0) ∷ (2, 0) ∷ []) ∷ (1, (0, 2) ∷ (1, 0) ∷ (2, 5) ∷ []) ∷ (2, (0, 1) ∷ (1, 0) ∷ (2, 0) ∷ []) ∷ [])
dense_cols = refl

-- two rows and three columns: the extent of each axis is its own
abbrev pub wide : Matrix
wide = record { rows = 2; cols = 3; entries = entry 0 0 1 ∷ entry 0 2 2 ∷ entry 1 0 3 ∷ entry 1 1 4 ∷ [] }

-- ---- dense > packed, CSR and CSC: a line without an entry stays

csr : content_of (shape.DensePacked axis.Row) whole [] matrix ≡ Two ((0, (1, 2) ∷ (2, 1) ∷ []) ∷ (1, []) ∷ (2, (1, 5) ∷ []) ∷ [])
csr = refl

csc : content_of (shape.DensePacked axis.Col) whole [] matrix ≡ Two ((0, []) ∷ (1, (0, 2) ∷ (2, 5) ∷ []) ∷ (2, (0, 1) ∷ []) ∷ [])
csc = refl

-- ---- packed > packed, DCSR and DCSC: a line without an entry is left out

dcsr : content_of (shape.PackedPacked axis.Row) whole [] matrix ≡ Two ((0, (1, 2) ∷ (2, 1) ∷ []) ∷ (2, (1, 5) ∷ []) ∷ [])
dcsr = refl

dcsc : content_of (shape.PackedPacked axis.Col) whole [] matrix ≡ Two ((1, (0, 2) ∷ (2, 5) ∷ []) ∷ (2, (0, 1) ∷ []) ∷ [])
dcsc = refl

-- no entry: no line, and nothing is spread over nothing
abbrev pub nothing : Matrix
nothing = record { rows = 3; cols = 3; entries = [] }

dcsr_of_nothing : content_of (shape.PackedPacked axis.Row) whole [] nothing ≡ Two []
dcsr_of_nothing = refl

-- an entry with the value 0 is stored
abbrev pub zeroed : Matrix
zeroed = record { rows = 2; cols = 2; entries = entry 1 0 0 ∷ [] }

a_zero_is_stored : content_of (shape.PackedPacked axis.Row) (0 ∷ 1 ∷ []) [] zeroed ≡ Two ((1, (0, 0) ∷ []) ∷ [])
a_zero_is_stored = refl

a_zero_in_a_list : content_of shape.ListTwo (0 ∷ 1 ∷ []) [] zeroed ≡ One ((2, 0) ∷ [])
a_zero_in_a_list = refl

-- ---- jagged: rows by falling count, rows of one count by rising row

jagged : content_of shape.Jagged whole [] matrix ≡ Two ((0, (1, 2) ∷ (2, 1) ∷ []) ∷ (2, (1, 5) ∷ []) ∷ (1, []) ∷ [])
jagged = refl

abbrev pub tied : Matrix
tied = record { rows = 4; cols = 2; entries = entry 1 0 1 ∷ entry 2 0 2 ∷ entry 2 1 3 ∷ entry 3 1 4 ∷ [] }

ties_by_row : rows_by_count tied ≡ 2 ∷ 1 ∷ 3 ∷ 0 ∷ []
ties_by_row = refl

-- ---- diagonal: column minus row

-- offsets -1, 0 and 2: below the main diagonal, on it, and two right of it
abbrev pub three_diagonals : Shape
three_diagonals = shape.Diagonal (negsuc 0 ∷ pos 0 ∷ pos 2 ∷ [])

--   1 . 2
--   3 . .
--   . . 4
abbrev pub banded : Matrix
banded = record { rows = 3; cols = 3; entries = entry 0 0 1 ∷ entry 0 2 2 ∷ entry 1 0 3 ∷ entry 2 2 4 ∷ [] }

diagonal : content_of three_diagonals whole [] banded ≡ Two ((0, (0, 1) ∷ (2, 2) ∷ []) ∷ (1, (0, 3) ∷ (1, 0) ∷ []) ∷ (2, (1, 0) ∷ (2, 4) ∷ []) ∷ [])
diagonal = refl

diagonals_of_three : content_of (shape.Diagonal (negsuc 0 ∷ pos 1 ∷ pos 2 ∷ [])) whole [] matrix ≡ Two ((0, (1, 2) ∷ (2, 1) ∷ []) ∷ (1, (0, 0) ∷ (2, 0) ∷ []) ∷ (2, (1, 5) ∷ []) ∷ [])
diagonals_of_three = refl

-- a part with the rows 1 and 2 of the array: the diagonals are those of the array
abbrev pub last_rows : Matrix
last_rows = record { rows = 2; cols = 3; entries = entry 0 0 3 ∷ entry 1 2 4 ∷ [] }

diagonal_of_a_part : content_of three_diagonals (1 ∷ 2 ∷ []) [] last_rows ≡ Two ((0, (0, 3) ∷ (1, 0) ∷ []) ∷ (1, (1, 0) ∷ (2, 4) ∷ []) ∷ [])
diagonal_of_a_part = refl

-- an offset whose diagonal leaves the matrix at once has no element
outside : diagonal_columns 3 (negsuc 2 ∷ pos 3 ∷ []) 0 ≡ []
outside = refl

corner : diagonal_columns 3 (negsuc 1 ∷ pos 3 ∷ []) 2 ≡ 0 ∷ []
corner = refl

-- ---- permute: the rows in the order of the file

permuted : content_of (shape.Permute (codes "p")) whole (2 ∷ 0 ∷ 1 ∷ []) matrix ≡ Two ((2, (1, 5) ∷ []) ∷ (0, (1, 2) ∷ (2, 1) ∷ []) ∷ (1, []) ∷ [])
permuted = refl

-- a part has its own rows alone, in the order in which the whole order has them
permuted_part : content_of (shape.Permute (codes "p")) (1 ∷ 2 ∷ []) (2 ∷ 0 ∷ 1 ∷ []) last_rows ≡ Two ((1, (2, 4) ∷ []) ∷ (0, (0, 3) ∷ []) ∷ [])
permuted_part = refl

-- ---- levels

levels_are : map levels_of (shape.ListTwo ∷ shape.DensePacked axis.Col ∷ shape.Jagged ∷ []) ≡
    (record { axis = axis.Both; ordered = false; lookup = Linear } ∷ [])
    ∷ (record { axis = axis.Col; ordered = true; lookup = Direct } ∷ record { axis = axis.Row; ordered = true; lookup = Binary } ∷ [])
    ∷ (record { axis = axis.Row; ordered = false; lookup = Direct } ∷ record { axis = axis.Col; ordered = true; lookup = Binary } ∷ [])
    ∷ []
levels_are = refl
