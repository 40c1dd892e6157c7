-- Numbers as the reader keeps them, of words of any length.
use Rattle.std.specs.Prelude.{◌≡◌, ℕ, ◌^◌, ◌≤◌, true, false, List, ◌∷◌}
use Rattle.mm_profile.specs.Lines.{words, word_at}
use Rattle.mm_profile.specs.Numbers.{Whole, is_natural, is_outside, value_of}
use Rattle.mm_profile.specs.Sizes.{number_at}
use Rattle.mm_text.specs.declared.numerals.Natural.{Natural}
use Rattle.mm_text.specs.declared.numerals.Natural.TheVariants.{Small, Large}
use Rattle.mm_text.specs.declared.numerals.Number.{Number}
use Rattle.mm_text.specs.declared.numerals.Number.TheVariants.{Inside, Outside}

-- exact below 2^64
abbrev pub StandsFor : Natural → ℕ → Type 0
StandsFor (Small n) m = m ≡ n
StandsFor Large m = 2 ^ 64 ≤ m

-- the value of a whole number, where it has one
abbrev pub IsNumber : Number → Whole → Type 0
IsNumber (Inside v) w = (is_outside w ≡ false) × (v ≡ value_of w)
IsNumber Outside w = is_outside w ≡ true

-- the first word of a line spells this number, and this stands after it
pub record IsNextNatural (line : List ℕ) (n : Natural) (rest : List ℕ) : Type 0 where
  pub spelled : is_natural (word_at (words line) 0) ≡ true
  pub number : StandsFor n (number_at (words line) 0)
  pub after : words line ≡ word_at (words line) 0 ∷ words rest
