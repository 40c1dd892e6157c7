-- Worked examples: small files with their matrix or their first refusal.
use Rattle.std.specs.Prelude.{◌≡◌, ◌-◌, ◌^◌, [], ◌∷◌, Ok, Err, codes, refl}
use Rattle.std.specs.Fmt.{digits}
use Rattle.bern_base.specs.declared.refusal.Rule.TheVariants.{M1, M2, M3, M4, M5, M6, M7, M8, M9, M10, M11}
use Rattle.mm_profile.specs.ArrayText.{array_text}
use Rattle.mm_profile.specs.Entries.{entry_at}
use Rattle.mm_profile.specs.Profile.{mm}

-- two entries for one element are added, and lines between may be comments or blank
pub general : mm (codes "%%MatrixMarket matrix coordinate integer general\n% note\n2 3 3\n\n2 1 7\r\n1 3 -2\n  %\n2 1 +05\n") ≡ Ok (record { rows = 2; cols = 3; entries = entry_at 0 2 (2 ^ 64 - 2) ∷ entry_at 1 0 12 ∷ [] })
general = refl

-- an entry in either triangle counts for both elements, one on the diagonal once, and the last line lacks its line feed
pub symmetric : mm (codes "%%matrixmarket MATRIX Coordinate integer symmetric\n2 2 3\n2 1 7\n1 1 5\n1 2 1") ≡ Ok (record { rows = 2; cols = 2; entries = entry_at 0 0 5 ∷ entry_at 0 1 8 ∷ entry_at 1 0 8 ∷ [] })
symmetric = refl

-- the lower triangle below the diagonal, column by column
pub skew : mm (codes "%%MatrixMarket matrix array integer skew-symmetric\n3 3\n1\n0\n2\n") ≡ Ok (record { rows = 3; cols = 3; entries = entry_at 0 1 (2 ^ 64 - 1) ∷ entry_at 0 2 0 ∷ entry_at 1 0 1 ∷ entry_at 1 2 (2 ^ 64 - 2) ∷ entry_at 2 0 0 ∷ entry_at 2 1 2 ∷ [] })
skew = refl

pub pattern : mm (codes "%%MatrixMarket matrix coordinate pattern general\n1 2 1\n1 2\n") ≡ Ok (record { rows = 1; cols = 2; entries = entry_at 0 1 1 ∷ [] })
pattern = refl

pub no_line : mm [] ≡ Err (1, M1)
no_line = refl

pub array_pattern : mm (codes "%%MatrixMarket matrix array pattern general\n") ≡ Err (1, M2)
array_pattern = refl

-- one past the last line, where a carriage return alone is a line too
pub no_size_line : mm (codes "%%MatrixMarket matrix array integer general\n%\n\r") ≡ Err (4, M3)
no_size_line = refl

pub too_many_columns : mm (codes "%%MatrixMarket matrix coordinate integer general\n1 4194305 0\n") ≡ Err (2, M4)
too_many_columns = refl

-- a side at its limit
pub most_columns : mm (codes "%%MatrixMarket matrix coordinate integer general\n0 4194304 0\n") ≡ Ok (record { rows = 0; cols = 4194304; entries = [] })
most_columns = refl

pub not_square : mm (codes "%%MatrixMarket matrix coordinate integer symmetric\n1 2 0\n") ≡ Err (2, M5)
not_square = refl

pub a_word_too_few : mm (codes "%%MatrixMarket matrix coordinate integer general\n1 1 1\n1 1\n") ≡ Err (3, M6)
a_word_too_few = refl

pub row_zero : mm (codes "%%MatrixMarket matrix coordinate integer general\n1 1 1\n0 1 1\n") ≡ Err (3, M7)
row_zero = refl

pub above_the_values : mm (codes "%%MatrixMarket matrix coordinate integer general\n1 1 1\n1 1 18446744073709551616\n") ≡ Err (3, M8)
above_the_values = refl

pub skew_diagonal : mm (codes "%%MatrixMarket matrix coordinate integer skew-symmetric\n1 1 1\n1 1 1\n") ≡ Err (3, M9)
skew_diagonal = refl

pub too_few : mm (codes "%%MatrixMarket matrix coordinate integer general\n1 1 2\n1 1 1\n") ≡ Err (4, M10)
too_few = refl

-- whatever the line holds
pub too_many : mm (codes "%%MatrixMarket matrix coordinate integer general\n1 1 1\n1 1 1\nx\n") ≡ Err (4, M11)
too_many = refl

-- a printed array: values go column by column, and one from 2^63 on has a sign
pub columns : array_text (codes "A") 2 3 (1 ∷ 2 ∷ 3 ∷ (2 ^ 64 - 4) ∷ (2 ^ 63) ∷ (2 ^ 63 - 1) ∷ [])
    ≡ codes "%%MatrixMarket matrix array integer general\n% A\n2 3\n1\n-4\n2\n-9223372036854775808\n3\n9223372036854775807\n"
unfolding digits
columns = refl
