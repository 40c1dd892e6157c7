-- The matrix of a Matrix Market file, or its first refusal: by line, and on a line by the order of the rules.
use Rattle.std.specs.Prelude.{ℕ, ◌+◌, Bool, true, ◌==◌, nat_lt, if◌then◌else◌, List, [], ◌∷◌, ◌++◌, length, slice_index, Result, Ok, Err}
use Rattle.bern_base.specs.declared.refusal.Rule.{Rule}
use Rattle.bern_base.specs.declared.refusal.Rule.TheVariants.{M1, M3, M10, M11, M12}
use Rattle.bern_base.specs.declared.limits.TheConstants.{MOST_FILE_BYTES}
use Rattle.bern_base.specs.declared.matrix.Entry.{Entry}
use Rattle.bern_base.specs.declared.matrix.Matrix.{Matrix}
use Rattle.mm_profile.specs.declared.kinds.Kind.{Kind}
use Rattle.mm_profile.specs.declared.sizes.Head.{Head}
use Rattle.mm_profile.specs.Lines.{lines, words}
use Rattle.mm_profile.specs.Kinds.{banner_of}
use Rattle.mm_profile.specs.Sizes.{head_of}
use Rattle.mm_profile.specs.Places.{Place, places}
use Rattle.mm_profile.specs.Entries.{entry_of}
use Rattle.mm_profile.specs.Sums.{matrix_of}

-- a line, counted from 1, and the rule that it breaks
abbrev pub Fault : Type 0
Fault = ℕ × Rule

-- the words of a line, with the line's number
abbrev pub Numbered : Type 0
Numbered = ℕ × List (List ℕ)

-- what follows an answer; a refusal stays
abbrev pub and_then : {A B E : Type 0} → Result A E → (A → Result B E) → Result B E
and_then (Ok x) next = next x
and_then (Err e) next = Err e

-- a refusal at this line
abbrev pub at_line : {A : Type 0} → ℕ → Result A Rule → Result A Fault
at_line line (Ok x) = Ok x
at_line line (Err rule) = Err (line, rule)

-- a line without words, and one whose first byte that is no blank is %
abbrev pub is_skipped : List (List ℕ) → Bool
is_skipped [] = true
is_skipped (word ∷ words) = slice_index word 0 == 37

-- the lines that are not skipped, by their words; the first of these lines has the number n
abbrev pub kept : ℕ → List (List ℕ) → List Numbered
kept n [] = []
kept n (line ∷ lines) = if is_skipped (words line) then kept (n + 1) lines else (n, words line) ∷ kept (n + 1) lines

-- all that counts, with a line for each place that is due.
-- Rule M11: there is no line too many. Rule M10: there is none too few, which shows one past the last line.
abbrev pub entries : Head → List Place → List Numbered → ℕ → Result (List Entry) Fault
entries head [] [] past = Ok []
entries head (place ∷ due) [] past = Err (past, M10)
entries head [] (line ∷ lines) past = Err (line.0, M11)
entries head (place ∷ due) (line ∷ lines) past =
    and_then (at_line line.0 (entry_of head place line.1)) (λ counted.
    and_then (entries head due lines past) (λ more. Ok (counted ++ more)))

abbrev pub table : Head → List Numbered → ℕ → Result Matrix Fault
table head lines past = and_then (entries head (places head) lines past) (λ counted. Ok (matrix_of head counted))

-- what follows line 1: the size line, which rule M3 wants, and the entry lines
abbrev pub body : Kind → List Numbered → ℕ → Result Matrix Fault
body kind [] past = Err (past, M3)
body kind (line ∷ lines) past = and_then (at_line line.0 (head_of kind line.1)) (λ head. table head lines past)

-- rule M1 wants a line 1
abbrev pub file : List (List ℕ) → Result Matrix Fault
file [] = Err (1, M1)
file (line ∷ lines) = and_then (at_line 1 (banner_of (words line))) (λ kind. body kind (kept 2 lines) (2 + length lines))

-- rule M12: a file has at most so many bytes
abbrev pub is_too_long : List ℕ → Bool
is_too_long bytes = nat_lt MOST_FILE_BYTES (length bytes)

abbrev pub mm : List ℕ → Result Matrix Fault
mm bytes = if is_too_long bytes then Err (0, M12) else file (lines bytes)
