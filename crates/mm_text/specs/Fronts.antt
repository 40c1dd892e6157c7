-- What some bytes begin with, and what stands after it.
use Rattle.std.specs.Prelude.{◌≡◌, ℕ, true, false, List, ◌∷◌, ◌++◌, ◌⊎◌}
use Rattle.std.specs.List.{list_any}
use Rattle.mm_profile.specs.Lines.{is_blank, is_line_feed, without_return}
use Rattle.mm_profile.specs.Numbers.{is_natural, natural, is_integer, integer}
use Rattle.mm_text.specs.declared.numerals.Natural.{Natural}
use Rattle.mm_text.specs.declared.numerals.Number.{Number}
use Rattle.mm_text.specs.Naturals.{StandsFor, IsNumber}

-- digits that spell this number
pub record BeginsWithNatural (bytes : List ℕ) (n : Natural) (rest : List ℕ) : Type 0 where
  pub word : List ℕ
  pub is : bytes ≡ word ++ rest
  pub spelled : is_natural word ≡ true
  pub number : StandsFor n (natural word)

-- a text that spells this integer
pub record BeginsWithInteger (bytes : List ℕ) (n : Number) (rest : List ℕ) : Type 0 where
  pub word : List ℕ
  pub is : bytes ≡ word ++ rest
  pub spelled : is_integer word ≡ true
  pub number : IsNumber n (integer word)

pub record BeginsWithBlank (bytes rest : List ℕ) : Type 0 where
  pub blank : ℕ
  pub is : bytes ≡ blank ∷ rest
  pub blanks : is_blank blank ≡ true

-- a line feed, perhaps behind one carriage return
abbrev pub BeginsWithEnd : List ℕ → List ℕ → Type 0
BeginsWithEnd bytes rest = (bytes ≡ 10 ∷ rest) ⊎ (bytes ≡ 13 ∷ 10 ∷ rest)

-- a line that ends, of which this holds
pub record BeginsWithLine (bytes rest : List ℕ) (Says : List ℕ → Type 0) : Type 0 where
  pub line : List ℕ
  pub is : bytes ≡ line ++ 10 ∷ rest
  pub whole : list_any is_line_feed line ≡ false
  pub says : Says (without_return line)
