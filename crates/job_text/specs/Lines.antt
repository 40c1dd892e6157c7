-- The lines of a job, and the text on each.
use Rattle.std.specs.Prelude.{ℕ, ◌-◌, length, take, slice_index, Bool, true, false, List, [], ◌∷◌, map, filter, if◌then◌else◌, ◌==◌, ◌||◌}
use Rattle.std.specs.List.{slice_split, before_first}
use Rattle.std.specs.Str.Lines.{strip_carriage_return}

abbrev pub is_feed : ℕ → Bool
is_feed byte = byte == 10

-- a space or a tab
abbrev pub is_blank : ℕ → Bool
is_blank byte = byte == 32 || byte == 9

abbrev pub is_hash : ℕ → Bool
is_hash byte = byte == 35

abbrev pub is_some_text : List ℕ → Bool
is_some_text [] = false
is_some_text (byte ∷ bytes) = true

-- no empty part after the last feed
abbrev pub filled : List (List ℕ) → List (List ℕ)
filled [] = []
filled (part ∷ []) = if is_some_text part then part ∷ [] else []
filled (part ∷ next ∷ parts) = part ∷ filled (next ∷ parts)

-- what stands between the feeds, each without one carriage return at its end
abbrev pub lines : List ℕ → List (List ℕ)
lines bytes = map strip_carriage_return (filled (slice_split is_feed bytes))

-- a text from its first byte on that is no blank
abbrev pub trimmed : List ℕ → List ℕ
trimmed [] = []
trimmed (byte ∷ text) = if is_blank byte then trimmed text else byte ∷ text

-- what a line says: up to its comment, without the blanks before it
abbrev pub said : List ℕ → List ℕ
said line = trimmed (before_first is_hash line)

-- the words of a text
abbrev pub words : List ℕ → List (List ℕ)
words text = filter is_some_text (slice_split is_blank text)

-- a line of a file without the feed at its end
abbrev pub without_feed : List ℕ → List ℕ
without_feed line = if slice_index line (length line - 1) == 10 then take (length line - 1) line else line
