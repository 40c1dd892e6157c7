-- What a line says that is no line to skip.
use Rattle.std.specs.Prelude.{◌≡◌, ℕ, true, false, List, Ok}
use Rattle.mm_profile.specs.Lines.{words, word_at}
use Rattle.mm_profile.specs.Numbers.{integer}
use Rattle.mm_profile.specs.Sizes.{number_at}
use Rattle.mm_profile.specs.declared.kinds.Field.TheVariants.{Integer, Pattern}
use Rattle.mm_profile.specs.declared.sizes.Head.{Head}
use Rattle.mm_profile.specs.Places.{Place}
use Rattle.mm_profile.specs.Entries.{is_stated_line, is_listed_line, entry_of}
use Rattle.mm_profile.specs.Profile.{is_skipped}
use Rattle.mm_text.specs.declared.numerals.Natural.{Natural}
use Rattle.mm_text.specs.declared.numerals.Number.{Number}
use Rattle.mm_text.specs.declared.entry_line.Counted.{Counted}
use Rattle.mm_text.specs.declared.due.Due.{Due}
use Rattle.mm_text.specs.Naturals.{StandsFor, IsNumber}
use Rattle.mm_text.specs.Counts.{counted_list}
use Rattle.mm_text.specs.Cursor.{CountsNext}

-- a row, a column and a value
pub record SaysTriple (row col : Natural) (value : Number) (line : List ℕ) : Type 0 where
  pub kept : is_skipped (words line) ≡ false
  pub form : is_stated_line Integer (words line) ≡ true
  pub row_is : StandsFor row (number_at (words line) 0)
  pub col_is : StandsFor col (number_at (words line) 1)
  pub value_is : IsNumber value (integer (word_at (words line) 2))

-- a row and a column
pub record SaysPair (row col : Natural) (line : List ℕ) : Type 0 where
  pub kept : is_skipped (words line) ≡ false
  pub form : is_stated_line Pattern (words line) ≡ true
  pub row_is : StandsFor row (number_at (words line) 0)
  pub col_is : StandsFor col (number_at (words line) 1)

-- a value
pub record SaysValue (value : Number) (line : List ℕ) : Type 0 where
  pub kept : is_skipped (words line) ≡ false
  pub form : is_listed_line (words line) ≡ true
  pub value_is : IsNumber value (integer (word_at (words line) 0))

-- what it counts for at a place
pub record SaysEntry (head : Head) (place : Place) (counted : Counted) (line : List ℕ) : Type 0 where
  pub kept : is_skipped (words line) ≡ false
  pub entry : entry_of head place (words line) ≡ Ok (counted_list counted)

-- what it counts for at the places that are due, and those that are due after it
pub record SaysNext (head : Head) (due : Due) (counted : Counted) (after : Due) (line : List ℕ) : Type 0 where
  pub kept : is_skipped (words line) ≡ false
  pub entry : CountsNext head due line counted after
