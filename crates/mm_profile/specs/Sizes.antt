-- The size line: how many rows, columns and entries a file has.
use Rattle.std.specs.Prelude.{ℕ, ◌*◌, Bool, true, false, ◌&&◌, ◌||◌, ◌==◌, nat_le, if◌then◌else◌, List, length, Result, Ok, Err}
use Rattle.std.specs.List.{list_all}
use Rattle.bern_base.specs.declared.limits.TheConstants.{MOST_SIDE, MOST_ENTRIES}
use Rattle.bern_base.specs.declared.refusal.Rule.{Rule}
use Rattle.bern_base.specs.declared.refusal.Rule.TheVariants.{M3, M4, M5}
use Rattle.mm_profile.specs.declared.kinds.Format.{Format}
use Rattle.mm_profile.specs.declared.kinds.Format.TheVariants.{Coordinate, Array}
use Rattle.mm_profile.specs.declared.kinds.Symmetry.{Symmetry}
use Rattle.mm_profile.specs.declared.kinds.Symmetry.TheVariants.{General, Symmetric, Skew}
use Rattle.mm_profile.specs.declared.kinds.Kind.{Kind}
use Rattle.mm_profile.specs.declared.sizes.Head.{Head}
use Rattle.mm_profile.specs.Lines.{word_at}
use Rattle.mm_profile.specs.Numbers.{is_natural, natural}

abbrev pub number_at : List (List ℕ) → ℕ → ℕ
number_at words i = natural (word_at words i)

-- so many words, each of them a number
abbrev pub are_numbers : ℕ → List (List ℕ) → Bool
are_numbers count words = length words == count && list_all is_natural words

-- rows, columns and entries, or rows and columns
abbrev pub numbers_due : Format → ℕ
numbers_due Coordinate = 3
numbers_due Array = 2

-- the stated entries; an array file states its elements
abbrev pub stated_by : Format → List (List ℕ) → ℕ
stated_by Coordinate words = number_at words 2
stated_by Array words = number_at words 0 * number_at words 1

-- rule M3: the size line is so many numbers
abbrev pub is_size_line : Format → List (List ℕ) → Bool
is_size_line format words = are_numbers (numbers_due format) words

-- rule M4: the sizes are within the limits
abbrev pub is_within_limits : ℕ → ℕ → ℕ → Bool
is_within_limits rows cols stated = nat_le rows MOST_SIDE && nat_le cols MOST_SIDE && nat_le stated MOST_ENTRIES

abbrev pub is_general : Symmetry → Bool
is_general General = true
is_general Symmetric = false
is_general Skew = false

-- rule M5: a file with mirrored elements is square
abbrev pub is_square : Symmetry → ℕ → ℕ → Bool
is_square symmetry rows cols = is_general symmetry || rows == cols

abbrev pub square_head : Kind → ℕ → ℕ → ℕ → Result Head Rule
square_head kind rows cols stated =
    if is_square kind.symmetry rows cols
    then Ok (record { kind = kind; rows = rows; cols = cols; stated = stated })
    else Err M5

abbrev pub limited_head : Kind → ℕ → ℕ → ℕ → Result Head Rule
limited_head kind rows cols stated =
    if is_within_limits rows cols stated then square_head kind rows cols stated else Err M4

-- what the size line says, by its words
abbrev pub head_of : Kind → List (List ℕ) → Result Head Rule
head_of kind words =
    if is_size_line kind.format words
    then limited_head kind (number_at words 0) (number_at words 1) (stated_by kind.format words)
    else Err M3
