-- What becomes of a table of entries at the lines that follow.
use Rattle.std.specs.Prelude.{◌≡◌, ℕ, ◌+◌, List, ◌∷◌, ◌++◌, length, Result, Ok, Err}
use Rattle.bern_base.specs.declared.refusal.Rule.{Rule}
use Rattle.bern_base.specs.declared.matrix.Matrix.{Matrix}
use Rattle.mm_profile.specs.Lines.{lines, words}
use Rattle.mm_profile.specs.Sums.{matrix_of}
use Rattle.mm_profile.specs.Profile.{Fault, Numbered, kept, entries, and_then}
use Rattle.mm_text.specs.Cursor.{due_list}
use Rattle.mm_text.specs.declared.table.Table.{Table}
use Rattle.mm_text.specs.declared.error.LineError.{LineError}
use Rattle.mm_text.specs.declared.error.LineError.TheVariants.{Broken, NoMemory}

abbrev pub table_rest : Table → List Numbered → ℕ → Result Matrix Fault
table_rest t lines past =
    and_then (entries t.head (due_list t.head t.due) lines past) (λ more. Ok (matrix_of t.head (t.counted.items ++ more)))

-- the table after a line that counts does with the lines after it as the one before does with all
abbrev pub TakesLine : Table → List ℕ → Table → Type 0
TakesLine before line after = (n : ℕ) (lines : List Numbered) (past : ℕ) →
    table_rest before ((n, words line) ∷ lines) past ≡ table_rest after lines past

abbrev pub RefusesLine : Table → List ℕ → Rule → Type 0
RefusesLine before line rule = (n : ℕ) (lines : List Numbered) (past : ℕ) →
    table_rest before ((n, words line) ∷ lines) past ≡ Err (n, rule)

-- by cases on what taking the line answers
abbrev pub AfterLine : Table → List ℕ → Table → Result (Unit {0}) LineError → Type 0
AfterLine before line after (Ok _) = TakesLine before line after
AfterLine before line after (Err (Broken rule)) = RefusesLine before line rule
AfterLine before line after (Err NoMemory) = Unit {0}

-- the same for a line that may be one to skip, among lines that are not cut into words; n is its number
abbrev pub lines_rest : Table → ℕ → List (List ℕ) → Result Matrix Fault
lines_rest t n lines = table_rest t (kept n lines) (n + length lines)

abbrev pub AfterAnyLine : Table → List ℕ → Table → Result (Unit {0}) LineError → Type 0
AfterAnyLine before line after (Ok _) = (n : ℕ) (lines : List (List ℕ)) →
    lines_rest before n (line ∷ lines) ≡ lines_rest after (n + 1) lines
AfterAnyLine before line after (Err (Broken rule)) = (n : ℕ) (lines : List (List ℕ)) →
    lines_rest before n (line ∷ lines) ≡ Err (n, rule)
AfterAnyLine before line after (Err NoMemory) = Unit {0}

-- after a piece of which the first line has the number n, this rest of it is left, whose first line has the number m
abbrev pub LeavesLines : Table → ℕ → List ℕ → Table → ℕ → List ℕ → Type 0
LeavesLines before n piece after m rest = (more : List ℕ) →
    lines_rest before n (lines (piece ++ more)) ≡ lines_rest after m (lines (rest ++ more))

-- after the line that a piece begins with
abbrev pub TakesFirst : Table → List ℕ → Table → List ℕ → Type 0
TakesFirst before piece after rest = (n : ℕ) → LeavesLines before n piece after (n + 1) rest

-- the table does with any lines as before
abbrev pub Stays : Table → Table → Type 0
Stays before after = (n : ℕ) (lines : List (List ℕ)) → lines_rest before n lines ≡ lines_rest after n lines
