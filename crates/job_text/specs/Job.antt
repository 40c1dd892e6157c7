-- What a job text means: the forms of its lines up to the first one that has none.
use Rattle.std.specs.Prelude.{◌≡◌, ◌+◌, ◌++◌, MatchBool, ℕ, Option, Some, None, List, [], ◌∷◌, if◌then◌else◌}
use Rattle.std.specs.List.{All}
use Rattle.bern_base.specs.declared.limits.TheConstants.{EXPRESSION_LEVELS}
use Rattle.bern_base.specs.declared.raw.Form.{Form}
use Rattle.bern_base.specs.declared.raw.Form.TheVariants as form
use Rattle.bern_base.specs.declared.raw.JobLine.{JobLine}
use Rattle.bern_base.specs.declared.raw.JobText.{JobText}
use Rattle.bern_base.specs.RawDepth.{IsShallow}
use Rattle.job_text.specs.Lines.{lines, said, is_some_text}
use Rattle.job_text.specs.Forms.{IsForm}

abbrev pub Numbered : Type 0
Numbered = ℕ × List ℕ

-- what the lines say, each with its line's number, counted from `number` on; lines that say nothing are left out
abbrev pub numbered : ℕ → List (List ℕ) → List Numbered
numbered number [] = []
numbered number (line ∷ lines) =
    if is_some_text (said line) then (number, said line) ∷ numbered (number + 1) lines else numbered (number + 1) lines

abbrev pub HasNoForm : List ℕ → Type 0
HasNoForm text = (form : Form) → ¬ (IsForm form text)

-- these are the forms of the lines before the first one that has none, and that line's number
abbrev pub IsRead : List Numbered → List JobLine → Option ℕ → Type 0
IsRead [] [] None = Unit {0}
IsRead [] [] (Some broken) = ⊥
IsRead [] (form ∷ forms) broken = ⊥
IsRead (line ∷ lines) [] None = ⊥
IsRead (line ∷ lines) [] (Some broken) = (broken ≡ line.0) × HasNoForm line.1
IsRead (line ∷ lines) (form ∷ forms) broken = (form.number ≡ line.0) × IsForm form.form line.1 × IsRead lines forms broken

-- lines count from 1
abbrev pub IsJob : List ℕ → JobText → Type 0
IsJob bytes job = IsRead (numbered 1 (lines bytes)) job.lines job.broken

-- the grammar gives a text one form at most
abbrev pub HasOneForm : Type 0
HasOneForm = (text : List ℕ) (a b : Form) → IsForm a text → IsForm b text → a ≡ b

-- and bytes one meaning
abbrev pub HasOneMeaning : Type 0
HasOneMeaning = (bytes : List ℕ) (a b : JobText) → IsJob bytes a → IsJob bytes b → a ≡ b

-- in a nest at most 16 pairs of parentheses stand in one another
abbrev pub IsShallowForm : Form → Type 0
IsShallowForm (form.Nest nest) = IsShallow EXPRESSION_LEVELS nest.body
IsShallowForm other = Unit {0}

-- and so it is in each form of a job
abbrev pub JobsAreShallow : Type 0
JobsAreShallow = (bytes : List ℕ) (job : JobText) → IsJob bytes job → All (λ line. IsShallowForm line.form) job.lines

-- what a line adds to the forms so far: nothing where it says nothing
abbrev pub AddsLine : ℕ → List ℕ → List JobLine → List JobLine → Type 0
AddsLine number text old new =
    MatchBool (is_some_text text)
    ((form : Form) × (new ≡ old ++ record { number = number; form = form } ∷ []) × IsForm form text)
    (new ≡ old)
