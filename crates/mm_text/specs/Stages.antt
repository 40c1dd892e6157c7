-- What becomes of a stage of reading at the lines that follow.
use Rattle.std.specs.Prelude.{◌≡◌, ℕ, ◌+◌, Bool, true, ◌==◌, List, ◌∷◌, ◌++◌, length, Result, Ok, Err}
use Rattle.bern_base.specs.declared.matrix.Matrix.{Matrix}
use Rattle.mm_profile.specs.Lines.{lines}
use Rattle.mm_profile.specs.Profile.{Fault, kept, body, file}
use Rattle.mm_text.specs.declared.table.Table.{Table}
use Rattle.mm_text.specs.Tables.{lines_rest}
use Rattle.mm_text.specs.declared.stage.Stage.{Stage}
use Rattle.mm_text.specs.declared.stage.Stage.TheVariants.{Start, Size, Entries, Refused}
use Rattle.mm_text.specs.declared.error.MmError.{MmError}
use Rattle.mm_text.specs.declared.error.MmError.TheVariants.{Broken, NoMemory}

-- n is the number of the next line
abbrev pub outcome : Stage → ℕ → List (List ℕ) → Result Matrix Fault
outcome Start n lines = file lines
outcome (Size kind) n lines = body kind (kept n lines) (n + length lines)
outcome (Entries t) n lines = lines_rest t n lines
outcome (Refused line rule) n lines = Err (line, rule)

-- nothing is known before line 1 alone
abbrev pub is_numbered : Stage → ℕ → Bool
is_numbered Start n = n == 1
is_numbered (Size kind) n = true
is_numbered (Entries t) n = true
is_numbered (Refused line rule) n = true

-- the stage after a line does with the lines after it as the one before does with all
abbrev pub Steps : Stage → ℕ → List ℕ → Stage → Type 0
Steps stage n line after = (lines : List (List ℕ)) → outcome stage n (line ∷ lines) ≡ outcome after (n + 1) lines

-- after a piece of which the first line has the number n, this rest of it is left, whose first line has the number m
abbrev pub Leaves : Stage → ℕ → List ℕ → Stage → ℕ → List ℕ → Type 0
Leaves before n piece after m rest = (more : List ℕ) →
    outcome before n (lines (piece ++ more)) ≡ outcome after m (lines (rest ++ more))

-- a piece with a line that is refused, by cases on the refusal
abbrev pub RefusesPiece : Table → ℕ → List ℕ → MmError → Type 0
RefusesPiece before n piece (Broken line rule) = (more : List ℕ) → lines_rest before n (lines (piece ++ more)) ≡ Err (line, rule)
RefusesPiece before n piece NoMemory = Unit {0}

-- the answer is what was read, or want of memory
abbrev pub Gives : Result Matrix MmError → Result Matrix Fault → Type 0
Gives (Ok m) read = read ≡ Ok m
Gives (Err (Broken line rule)) read = read ≡ Err (line, rule)
Gives (Err NoMemory) read = Unit {0}
