-- The tokens of a nest line.
use Rattle.std.specs.Prelude.{◌≡◌, ℕ, not, Option, Some, None, option_map, List, [], ◌∷◌, take, drop, codes, if◌then◌else◌}
use Rattle.std.specs.List.{position_or_len}
use Rattle.std.specs.Str.{bytes_eq}
use Rattle.job_text.specs.declared.tokens.Token.{Token}
use Rattle.job_text.specs.declared.tokens.Token.TheVariants.{Name, Num, Mark}
use Rattle.job_text.specs.declared.tokens.Mark.TheVariants as m
use Rattle.job_text.specs.Lines.{trimmed}
use Rattle.job_text.specs.Names.{is_digit, is_name_start, is_name_byte, is_name}
use Rattle.job_text.specs.Marks.{double_mark, single_mark}
use Rattle.job_text.specs.Reading.{number_of}

-- the digits at the front, taken whole
abbrev pub digits_end : List ℕ → ℕ
digits_end text = position_or_len (λ byte. not (is_digit byte)) text

abbrev pub number_at : List ℕ → Option (Token × List ℕ)
number_at text = option_map (λ n. (Num n, drop (digits_end text) text)) (number_of (take (digits_end text) text))

-- the letters, digits and `_` at the front, taken whole: a name, or one of the two words of nest lines
abbrev pub word_end : List ℕ → ℕ
word_end text = position_or_len (λ byte. not (is_name_byte byte)) text

abbrev pub word_token : List ℕ → Option Token
word_token word =
    if bytes_eq word (codes "doany") then Some (Mark m.Doany) else if bytes_eq word (codes "where") then Some (Mark m.Where)
    else if is_name word then Some (Name word) else None

abbrev pub word_at : List ℕ → Option (Token × List ℕ)
word_at text = option_map (λ token. (token, drop (word_end text) text)) (word_token (take (word_end text) text))

-- a mark of two bytes, or else of one
abbrev pub single_at : ℕ → List ℕ → Option (Token × List ℕ)
single_at byte text = option_map (λ mark. (Mark mark, text)) (single_mark byte)

abbrev pub longer_first : Option (Token × List ℕ) → Option (Token × List ℕ) → Option (Token × List ℕ)
longer_first (Some long) short = Some long
longer_first None short = short

abbrev pub mark_at : ℕ → List ℕ → Option (Token × List ℕ)
mark_at byte [] = single_at byte []
mark_at byte (next ∷ text) = longer_first (option_map (λ mark. (Mark mark, text)) (double_mark byte next)) (single_at byte (next ∷ text))

-- the token at the front of a text, and what follows it
abbrev pub first_token : List ℕ → Option (Token × List ℕ)
first_token [] = None
first_token (byte ∷ text) =
    if is_digit byte then number_at (byte ∷ text) else if is_name_start byte then word_at (byte ∷ text) else mark_at byte text

-- these are the tokens of a text, blanks left out
abbrev pub Lexes : List ℕ → List Token → Type 0
Lexes text [] = trimmed text ≡ []
Lexes text (token ∷ tokens) = (rest : List ℕ) × (first_token (trimmed text) ≡ Some (token, rest)) × Lexes rest tokens
