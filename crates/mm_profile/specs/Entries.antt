-- An entry line: for which elements it counts, and with which values.
use Rattle.std.specs.Prelude.{ℕ, ◌-◌, Bool, true, false, not, ◌&&◌, ◌||◌, ◌==◌, nat_lt, nat_le, if◌then◌else◌, List, [], ◌∷◌, length, Result, Ok, Err}
use Rattle.bern_base.specs.declared.refusal.Rule.{Rule}
use Rattle.bern_base.specs.declared.refusal.Rule.TheVariants.{M6, M7, M8, M9}
use Rattle.bern_base.specs.declared.matrix.Entry.{Entry}
use Rattle.bern_base.specs.Ring.{ring_neg}
use Rattle.mm_profile.specs.declared.kinds.Field.{Field}
use Rattle.mm_profile.specs.declared.kinds.Field.TheVariants.{Integer, Pattern}
use Rattle.mm_profile.specs.declared.kinds.Symmetry.{Symmetry}
use Rattle.mm_profile.specs.declared.kinds.Symmetry.TheVariants.{General, Symmetric, Skew}
use Rattle.mm_profile.specs.declared.sizes.Head.{Head}
use Rattle.mm_profile.specs.Lines.{word_at}
use Rattle.mm_profile.specs.Numbers.{is_natural, is_integer, integer, Whole, is_outside, value_of}
use Rattle.mm_profile.specs.Sizes.{number_at, are_numbers}
use Rattle.mm_profile.specs.Places.{Place, Stated, At}

abbrev pub entry_at : ℕ → ℕ → ℕ → Entry
entry_at row col value = record { row = row; col = col; value = value }

-- an entry off the diagonal counts for its element and for the mirrored one, one on the diagonal once
abbrev pub mirrored : ℕ → ℕ → ℕ → ℕ → List Entry
mirrored row col value other = if row == col then entry_at row col value ∷ [] else entry_at row col value ∷ entry_at col row other ∷ []

abbrev pub is_skew : Symmetry → Bool
is_skew General = false
is_skew Symmetric = false
is_skew Skew = true

-- rule M9: what is negated at the mirrored element is 0 on the diagonal
abbrev pub is_own_negative : Symmetry → ℕ → ℕ → ℕ → Bool
is_own_negative symmetry row col value = not (is_skew symmetry && row == col) || value == 0

-- all that counts because of an entry
abbrev pub counted_of : Symmetry → ℕ → ℕ → ℕ → List Entry
counted_of General row col value = entry_at row col value ∷ []
counted_of Symmetric row col value = mirrored row col value value
counted_of Skew row col value = mirrored row col value (ring_neg value)

abbrev pub counts : Symmetry → ℕ → ℕ → ℕ → Result (List Entry) Rule
counts symmetry row col value =
    if is_own_negative symmetry row col value then Ok (counted_of symmetry row col value) else Err M9

-- rule M8: the value is from -2^63 to 2^64 - 1
abbrev pub valued : Head → ℕ → ℕ → Whole → Result (List Entry) Rule
valued head row col n = if is_outside n then Err M8 else counts head.kind.symmetry row col (value_of n)

-- an index from 1 to its size
abbrev pub is_index : ℕ → ℕ → Bool
is_index size i = nat_lt 0 i && nat_le i size

-- rule M7: both indices lie in the matrix
abbrev pub is_place : Head → ℕ → ℕ → Bool
is_place head row col = is_index head.rows row && is_index head.cols col

abbrev pub placed : Head → ℕ → ℕ → Whole → Result (List Entry) Rule
placed head row col n = if is_place head row col then valued head (row - 1) (col - 1) n else Err M7

-- a pattern's value
abbrev pub one : Whole
one = record { minus = false; size = 1 }

-- rule M6 where lines name their places: row, column and value, or row and column
abbrev pub is_stated_line : Field → List (List ℕ) → Bool
is_stated_line Integer words = length words == 3 && is_natural (word_at words 0) && is_natural (word_at words 1) && is_integer (word_at words 2)
is_stated_line Pattern words = are_numbers 2 words

abbrev pub stated_value : Field → List (List ℕ) → Whole
stated_value Integer words = integer (word_at words 2)
stated_value Pattern words = one

-- rule M6 where lines come place by place: a value
abbrev pub is_listed_line : List (List ℕ) → Bool
is_listed_line words = length words == 1 && is_integer (word_at words 0)

-- what a line counts for at a place, or the rule that it breaks
abbrev pub entry_of : Head → Place → List (List ℕ) → Result (List Entry) Rule
entry_of head Stated words =
    if is_stated_line head.kind.field words
    then placed head (number_at words 0) (number_at words 1) (stated_value head.kind.field words)
    else Err M6
entry_of head (At row col) words = if is_listed_line words then valued head row col (integer (word_at words 0)) else Err M6
