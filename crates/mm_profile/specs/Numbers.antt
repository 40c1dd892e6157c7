-- Numbers: how they are spelled and what they stand for.
use Rattle.std.specs.Prelude.{ℕ, ◌+◌, ◌-◌, ◌*◌, ◌^◌, Bool, not, ◌&&◌, ◌||◌, ◌==◌, nat_lt, nat_le, if◌then◌else◌, List, drop, fold, slice_index}
use Rattle.std.specs.List.{list_all}
use Rattle.bern_base.specs.Ring.{ring_neg}
use Rattle.mm_profile.specs.Lines.{is_empty}

abbrev pub is_digit : ℕ → Bool
is_digit b = nat_le 48 b && nat_le b 57

-- sizes and indices: one or more decimal digits, leading zeros allowed
abbrev pub is_natural : List ℕ → Bool
is_natural word = not (is_empty word) && list_all is_digit word

abbrev pub natural : List ℕ → ℕ
natural digits = fold (λ n b. 10 * n + (b - 48)) 0 digits

abbrev pub is_minus : List ℕ → Bool
is_minus word = slice_index word 0 == 45

abbrev pub is_plus : List ℕ → Bool
is_plus word = slice_index word 0 == 43

abbrev pub unsigned : List ℕ → List ℕ
unsigned word = if is_minus word || is_plus word then drop 1 word else word

-- values: an optional sign and one or more decimal digits
abbrev pub is_integer : List ℕ → Bool
is_integer word = is_natural (unsigned word)

-- a whole number by its sign and its distance from 0
pub record Whole : Type 0 where
  pub minus : Bool
  pub size : ℕ

abbrev pub integer : List ℕ → Whole
integer word = record { minus = is_minus word; size = natural (unsigned word) }

-- below -2^63 or above 2^64 - 1
abbrev pub is_outside : Whole → Bool
is_outside n = if n.minus then nat_lt (2 ^ 63) n.size else nat_le (2 ^ 64) n.size

-- the value of a number that is not outside
abbrev pub value_of : Whole → ℕ
value_of n = if n.minus then ring_neg n.size else n.size
