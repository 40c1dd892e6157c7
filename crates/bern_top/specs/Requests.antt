-- Requests by their words, and the rules of words.
use Rattle.std.specs.Prelude.{◌≡◌, ◌≢◌, ℕ, ◌^◌, ◌<◌, ◌≤◌, ◌⊎◌, if◌then◌else◌, List, [], ◌∷◌, Option, Some, None, Result, Ok, Err, length, codes, decimal, slice_index_or, ⊤}
use Rattle.std.specs.Str.{bytes_eq}
use Rattle.bern_base.specs.declared.limits.TheConstants.{MOST_RANKS}
use Rattle.bern_base.specs.declared.refusal.Rule.{Rule}
use Rattle.bern_base.specs.declared.refusal.Rule.TheVariants.{C1, C2, C3, C4, U1}
use Rattle.bern_top.specs.declared.requests.Command.{Command}
use Rattle.bern_top.specs.declared.requests.Command.TheVariants.{Plan, Replay, Run}
use Rattle.bern_top.specs.declared.requests.CommandName.{CommandName}
use Rattle.bern_top.specs.declared.requests.CommandName.TheVariants as name
use Rattle.bern_top.specs.declared.requests.Request.{Request}
use Rattle.bern_top.specs.declared.requests.WordsError.{WordsError}
use Rattle.bern_top.specs.declared.requests.WordsError.TheVariants as e

abbrev pub request : List ℕ → Command → Request
request job command = record { job = job; command = command }

-- a run on so many ranks, or with a seed a replay
abbrev pub running : ℕ → Option ℕ → Command
running ranks None = Run ranks
running ranks (Some seed) = Replay ranks seed

-- RANKS is 1 to 64, in decimal digits without a sign or a leading zero
abbrev pub IsRanks : List ℕ → ℕ → Type 0
IsRanks word n = (1 ≤ n) × (n ≤ MOST_RANKS) × (word ≡ decimal n)

-- SEED is 0 to 2^64 - 1, spelled so too
abbrev pub IsSeed : List ℕ → ℕ → Type 0
IsSeed word n = (n < 2 ^ 64) × (word ≡ decimal n)

-- `run JOB RANKS`
pub record IsRun (words : List (List ℕ)) (job : List ℕ) (ranks : ℕ) : Type 0 where
  pub some : 1 ≤ ranks
  pub most : ranks ≤ MOST_RANKS
  pub words_are : words ≡ codes "run" ∷ job ∷ decimal ranks ∷ []

-- `replay JOB RANKS SEED`
pub record IsReplay (words : List (List ℕ)) (job : List ℕ) (ranks seed : ℕ) : Type 0 where
  pub some : 1 ≤ ranks
  pub most : ranks ≤ MOST_RANKS
  pub fits : seed < 2 ^ 64
  pub words_are : words ≡ codes "replay" ∷ job ∷ decimal ranks ∷ decimal seed ∷ []

-- these words ask for a command over a job: `plan JOB` beside those two
abbrev pub Asks : List (List ℕ) → List ℕ → Command → Type 0
Asks words job (Run ranks) = IsRun words job ranks
Asks words job Plan = words ≡ codes "plan" ∷ job ∷ []
Asks words job (Replay ranks seed) = IsReplay words job ranks seed

abbrev pub IsRequest : List (List ℕ) → Request → Type 0
IsRequest words r = Asks words r.job r.command

-- as many ranks as a command may have
abbrev pub HasRanks : Command → Type 0
HasRanks (Run ranks) = (1 ≤ ranks) × (ranks ≤ MOST_RANKS)
HasRanks Plan = ⊤
HasRanks (Replay ranks seed) = (1 ≤ ranks) × (ranks ≤ MOST_RANKS)

-- the six names of commands
abbrev pub name_of : List ℕ → Option CommandName
name_of word =
    if bytes_eq word (codes "run") then Some name.Run
    else if bytes_eq word (codes "report") then Some name.Report
    else if bytes_eq word (codes "plan") then Some name.Plan
    else if bytes_eq word (codes "sets") then Some name.Sets
    else if bytes_eq word (codes "replay") then Some name.Replay
    else if bytes_eq word (codes "exercise") then Some name.Exercise
    else None

-- a word by its place, the name being at place 0; one that is not there has no bytes
abbrev pub word_at : ℕ → List (List ℕ) → List ℕ
word_at k words = slice_index_or words k []

-- C2: there are not so many words; or there are, and the rest is refused
abbrev pub RefusesCount : ℕ → List (List ℕ) → Type 0 → Rule → Type 0
RefusesCount n words Rest rule = ((length words ≢ n) × (rule ≡ C2)) ⊎ ((length words ≡ n) × Rest)

-- C3: the word is no number of ranks; or it is one, and the rest is refused
abbrev pub RefusesRanks : List ℕ → Type 0 → Rule → Type 0
RefusesRanks word Rest rule = (((n : ℕ) → IsRanks word n → ⊥) × (rule ≡ C3)) ⊎ (((n : ℕ) × IsRanks word n) × Rest)

-- C4: the word is no seed; or it is one, and the rest is refused
abbrev pub RefusesSeed : List ℕ → Type 0 → Rule → Type 0
RefusesSeed word Rest rule = (((n : ℕ) → IsSeed word n → ⊥) × (rule ≡ C4)) ⊎ (((n : ℕ) × IsSeed word n) × Rest)

-- U1: the command is not built yet
abbrev pub IsUnbuilt : Rule → Type 0
IsUnbuilt rule = rule ≡ U1

-- the rule that the words of a command break, by its name; the rule of RANKS is tried before that of SEED
abbrev pub RefusesRun : List (List ℕ) → Rule → Type 0
RefusesRun words rule = RefusesCount 3 words (RefusesRanks (word_at 2 words) ⊥ rule) rule

abbrev pub RefusesReplay : List (List ℕ) → Rule → Type 0
RefusesReplay words rule = RefusesCount 4 words (RefusesRanks (word_at 2 words) (RefusesSeed (word_at 3 words) ⊥ rule) rule) rule

-- `report JOB RANKS` and `sets JOB RANKS`
abbrev pub RefusesOnRanks : List (List ℕ) → Rule → Type 0
RefusesOnRanks words rule = RefusesCount 3 words (RefusesRanks (word_at 2 words) (IsUnbuilt rule) rule) rule

-- `plan JOB`
abbrev pub RefusesPlan : List (List ℕ) → Rule → Type 0
RefusesPlan words rule = RefusesCount 2 words ⊥ rule

-- `exercise SEED RANKS`
abbrev pub RefusesExercise : List (List ℕ) → Rule → Type 0
RefusesExercise words rule =
    RefusesCount 3 words (RefusesRanks (word_at 2 words) (RefusesSeed (word_at 1 words) (IsUnbuilt rule) rule) rule) rule

-- the first rule that words break, where they break one
abbrev pub RefusesNamed : Option CommandName → List (List ℕ) → Rule → Type 0
RefusesNamed None words rule = rule ≡ C1
RefusesNamed (Some name.Run) words rule = RefusesRun words rule
RefusesNamed (Some name.Report) words rule = RefusesOnRanks words rule
RefusesNamed (Some name.Plan) words rule = RefusesPlan words rule
RefusesNamed (Some name.Sets) words rule = RefusesOnRanks words rule
RefusesNamed (Some name.Replay) words rule = RefusesReplay words rule
RefusesNamed (Some name.Exercise) words rule = RefusesExercise words rule

-- the name is the first word; where there is no word there is no name
abbrev pub first_name : List (List ℕ) → Option CommandName
first_name [] = None
first_name (word ∷ words) = name_of word

abbrev pub RefusesWords : List (List ℕ) → Rule → Type 0
RefusesWords words rule = RefusesNamed (first_name words) words rule

-- why words give no request: their first broken rule; memory is wanted for the words of a request alone
abbrev pub RefusesBy : (Rule → Type 0) → Type 0 → WordsError → Type 0
RefusesBy broken some (e.Refused rule) = broken rule
RefusesBy broken some e.NoMemory = some

abbrev pub HasRequest : List (List ℕ) → Type 0
HasRequest words = (r : Request) × IsRequest words r

-- this request, or want of memory
abbrev pub GivesRequest : Request → Result Request WordsError → Type 0
GivesRequest r (Ok given) = given ≡ r
GivesRequest r (Err (e.Refused rule)) = ⊥
GivesRequest r (Err e.NoMemory) = ⊤
