-- Names, numbers and file names.
use Rattle.std.specs.Prelude.{◌≡◌, ℕ, ◌^◌, ◌<◌, Bool, true, false, List, [], ◌∷◌, ◌==◌, ◌||◌, ◌&&◌, not, nat_le, length, codes}
use Rattle.std.specs.List.{list_all, list_any}
use Rattle.std.specs.Str.{bytes_eq}
use Rattle.std.specs.Str.Parse.{digits_value}
use Rattle.job_text.specs.Lines.{is_some_text}

-- a letter or `_`
abbrev pub is_name_start : ℕ → Bool
is_name_start byte = nat_le 97 byte && nat_le byte 122 || nat_le 65 byte && nat_le byte 90 || byte == 95

abbrev pub is_digit : ℕ → Bool
is_digit byte = nat_le 48 byte && nat_le byte 57

abbrev pub is_name_byte : ℕ → Bool
is_name_byte byte = is_name_start byte || is_digit byte

-- the words that are no names: those that begin a line, those that join the parts of one, those of places and of levels
abbrev pub line_words : List (List ℕ)
line_words =
    codes "extent" ∷ codes "place" ∷ codes "format" ∷ codes "array" ∷ codes "doany" ∷ codes "print"
    ∷ codes "repeat" ∷ codes "end" ∷ codes "move" ∷ []

abbrev pub joining_words : List (List ℕ)
joining_words = codes "where" ∷ codes "from" ∷ codes "zero" ∷ codes "by" ∷ codes "on" ∷ codes "to" ∷ []

abbrev pub place_words : List (List ℕ)
place_words = codes "block" ∷ codes "cyclic" ∷ codes "listed" ∷ []

abbrev pub level_words : List (List ℕ)
level_words =
    codes "row" ∷ codes "col" ∷ codes "dense" ∷ codes "packed" ∷ codes "list" ∷ codes "jagged" ∷ codes "diagonal" ∷ codes "permute"
    ∷ codes "blocks" ∷ codes "hashed" ∷ []

abbrev pub is_among : List (List ℕ) → List ℕ → Bool
is_among words word = list_any (bytes_eq word) words

abbrev pub is_keyword : List ℕ → Bool
is_keyword word = is_among line_words word || is_among joining_words word || is_among place_words word || is_among level_words word

abbrev pub starts_name : List ℕ → Bool
starts_name [] = false
starts_name (byte ∷ word) = is_name_start byte

-- a letter or `_`, then letters, digits and `_`, at most 32 bytes, and no keyword
abbrev pub is_name : List ℕ → Bool
is_name word = starts_name word && nat_le (length word) 32 && list_all is_name_byte word && not (is_keyword word)

-- a byte from `!` to `~` other than `#`
abbrev pub is_file_byte : ℕ → Bool
is_file_byte byte = nat_le 33 byte && nat_le byte 126 && not (byte == 35)

abbrev pub is_file_name : List ℕ → Bool
is_file_name word = nat_le 1 (length word) && nat_le (length word) 255 && list_all is_file_byte word

abbrev pub is_numeral : List ℕ → Bool
is_numeral word = is_some_text word && list_all is_digit word

-- the number that decimal digits write, where it is below 2 ^ 64; leading zeros are allowed
pub record IsNumber (n : ℕ) (word : List ℕ) : Type 0 where
  pub digits : is_numeral word ≡ true
  pub value : n ≡ digits_value 10 word
  pub fits : n < 2 ^ 64
