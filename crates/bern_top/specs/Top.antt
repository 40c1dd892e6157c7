-- What the top call says of its status, of what was written, and of the faults.
use Rattle.std.specs.Prelude.{◌≡◌, ℕ, ◌⊎◌, List, Option, IsSome, IfSome}
use Rattle.std.specs.Io.KnownBytes.{Appends, Keeps}
use Rattle.bern_base.specs.declared.refusal.Rule.{Rule}
use Rattle.bern_base.specs.declared.refusal.Refusal.{Refusal}
use Rattle.bern_base.specs.declared.refusal.Refusal.TheVariants.{Words}
use Rattle.bern_ports.specs.Causes.{Rose}
use Rattle.bern_ports.specs.Files.{Files, bytes_of}
use Rattle.bern_ports.specs.Frames.{Port, ShelfState}
use Rattle.job_files.specs.declared.load_error.LoadError.{LoadError}
use Rattle.job_files.specs.declared.load_error.LoadError.TheVariants as e
use Rattle.job_files.specs.Answers.{IsBlamed}
use Rattle.bern_top.specs.Answers.{StopsWithin, HasLine}
use Rattle.bern_top.specs.Lines.{refusal_line, read_fault_line, write_fault_line, memory_line}
use Rattle.bern_top.specs.Requests.{RefusesWords}
use Rattle.bern_top.specs.Endings.{Done, Refuses, Ends, IsReached}

-- the text that is due for these words
abbrev pub IsDue : Files → List (List ℕ) → List ℕ → Type 0
IsDue files words text = Ends files words (Done text)

-- the first refusal: of the words by their first broken rule, or of what their request ends with
abbrev pub IsRefused : Files → List (List ℕ) → Refusal → Type 0
IsRefused files words refusal = Ends files words (Refuses refusal)

-- a fault at this name has its cause: the words reach it, it is not there, or its count rose and the shelf is not sure, and no
-- other name's count changed
abbrev pub IsFaultOf : Files → List (List ℕ) → ShelfState → ShelfState → List ℕ → Type 0
IsFaultOf files words before after name = IsReached files words name × IsBlamed before after files name

-- no call failed, or each file that the words reach is there and its count did not rise
abbrev pub IsCalm : Files → List (List ℕ) → ShelfState → ShelfState → Type 0
IsCalm files words before after =
    (Rose before.faults after.faults → ⊥)
    ⊎ ((name : List ℕ) → IsReached files words name →
    IsSome (bytes_of files name) × (Rose (before.faults_on name) (after.faults_on name) → ⊥))

abbrev pub IsStatus : ℕ → Type 0
IsStatus status = (status ≡ 0) ⊎ (status ≡ 2) ⊎ (status ≡ 3) ⊎ (status ≡ 4) ⊎ (status ≡ 5)

-- 0 is answered only with the due text, whole on out, and nothing on err
abbrev pub SaysDone : List (List ℕ) → Option Files → Port → Port → ℕ → Type 0
SaysDone words files out err status =
    status ≡ 0 → IfSome files (λ fs. (text : List ℕ) × IsDue fs words text × Appends out.old out.new text) × Keeps err.old err.new

-- 2 is answered only with the first refusal, with its line on err and nothing on out
abbrev pub SaysRefused : List (List ℕ) → Option Files → Port → Port → ℕ → Type 0
SaysRefused words files out err status =
    status ≡ 2 →
    Keeps out.old out.new × ((refusal : Refusal) × IfSome files (λ fs. IsRefused fs words refusal) × HasLine err (refusal_line refusal))

-- refused words are refused, whatever fails
abbrev pub SaysWords : List (List ℕ) → Port → Port → ℕ → Type 0
SaysWords words out err status =
    (rule : Rule) → RefusesWords words rule → (status ≡ 2) × Keeps out.old out.new × HasLine err (refusal_line (Words rule))

-- 3 is answered only where the shelf's count rose, with a name at which the fault has its cause, and nothing on out
abbrev pub SaysReadFault : List (List ℕ) → ShelfState → ShelfState → Port → Port → ℕ → Type 0
SaysReadFault words before after out err status =
    status ≡ 3 →
    Rose before.faults after.faults × Keeps out.old out.new
    × ((name : List ℕ) × IfSome before.files (λ fs. IsFaultOf fs words before after name) × HasLine err (read_fault_line name))

-- 4 is answered only with the due text, a part of it from its front on out, and where out's count rose
abbrev pub SaysWriteFault : List (List ℕ) → Option Files → Port → Port → ℕ → Type 0
SaysWriteFault words files out err status =
    status ≡ 4 →
    Rose out.before out.now × IfSome files (λ fs. (text : List ℕ) × IsDue fs words text × StopsWithin out text) ×
    HasLine err write_fault_line

-- 5 is want of memory, with nothing on out
abbrev pub SaysMemory : Port → Port → ℕ → Type 0
SaysMemory out err status = status ≡ 5 → Keeps out.old out.new × HasLine err memory_line

-- where a text is due, the shelf is calm and out's count did not rise, it is done or memory was short
abbrev pub SaysDue : List (List ℕ) → ShelfState → ShelfState → Port → ℕ → Type 0
SaysDue words before after out status =
    IfSome before.files
    (λ fs. (text : List ℕ) → IsDue fs words text → IsCalm fs words before after → (Rose out.before out.now → ⊥) →
    (status ≡ 0) ⊎ (status ≡ 5))

-- where something is refused and the shelf is calm, it is refused with its line, or memory was short
abbrev pub SaysRefusal : List (List ℕ) → ShelfState → ShelfState → Port → ℕ → Type 0
SaysRefusal words before after err status =
    IfSome before.files
    (λ fs. (refusal : Refusal) → IsRefused fs words refusal → IsCalm fs words before after →
    ((status ≡ 2) × HasLine err (refusal_line refusal)) ⊎ (status ≡ 5))

-- all of it
pub record Says (words : List (List ℕ)) (before after : ShelfState) (out err : Port) (status : ℕ) : Type 0 where
  pub known : IsStatus status
  pub done : SaysDone words before.files out err status
  pub refused : SaysRefused words before.files out err status
  pub words_refused : SaysWords words out err status
  pub read_fault : SaysReadFault words before after out err status
  pub write_fault : SaysWriteFault words before.files out err status
  pub memory : SaysMemory out err status
  pub due : SaysDue words before after out status
  pub refusal : SaysRefusal words before after err status

-- the writing of a text: done, or stopped with its line
abbrev pub PrintsText : Port → Port → List ℕ → ℕ → Type 0
PrintsText out err text status =
    ((status ≡ 0) × Appends out.old out.new text × Keeps err.old err.new)
    ⊎ ((status ≡ 4) × StopsWithin out text × HasLine err write_fault_line)

-- the answer for why there is no text
abbrev pub TellsFault : Port → LoadError → ℕ → Type 0
TellsFault err (e.Refused refusal) status = (status ≡ 2) × HasLine err (refusal_line refusal)
TellsFault err (e.ReadFault file) status = (status ≡ 3) × HasLine err (read_fault_line file)
TellsFault err e.NoMemory status = (status ≡ 5) × HasLine err memory_line
