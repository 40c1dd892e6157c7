-- Lines and words: the pieces of a text between the bytes that end them.
use Rattle.std.specs.Prelude.{ℕ, ◌-◌, Bool, true, false, not, ◌||◌, ◌==◌, if◌then◌else◌, List, [], ◌∷◌, length, take, map, filter, slice_index, slice_index_or}

-- the pieces, the first of them longer by this byte
abbrev pub longer : ℕ → List (List ℕ) → List (List ℕ)
longer b [] = (b ∷ []) ∷ []
longer b (piece ∷ pieces) = (b ∷ piece) ∷ pieces

-- the pieces that end at a byte that passes, or at the end of the bytes; an empty rest is no piece
abbrev pub cut : (ℕ → Bool) → List ℕ → List (List ℕ)
cut ends [] = []
cut ends (b ∷ bytes) = if ends b then [] ∷ cut ends bytes else longer b (cut ends bytes)

abbrev pub is_line_feed : ℕ → Bool
is_line_feed b = b == 10

-- a space or a tab
abbrev pub is_blank : ℕ → Bool
is_blank b = b == 32 || b == 9

abbrev pub is_empty : List ℕ → Bool
is_empty [] = true
is_empty (b ∷ bytes) = false

-- the line without one carriage return at its end
abbrev pub without_return : List ℕ → List ℕ
without_return line = if slice_index line (length line - 1) == 13 then take (length line - 1) line else line

-- a line ends with a line feed or with the end of the bytes
abbrev pub lines : List ℕ → List (List ℕ)
lines bytes = map without_return (cut is_line_feed bytes)

-- words are separated by blanks; blanks at the ends of a line don't matter
abbrev pub words : List ℕ → List (List ℕ)
words line = filter (λ word. not (is_empty word)) (cut is_blank line)

abbrev pub word_at : List (List ℕ) → ℕ → List ℕ
word_at words i = slice_index_or words i []
