-- What the answers of calls say of the ending of a request and of the sinks.
use Rattle.std.specs.Prelude.{◌≡◌, ◌≢◌, ℕ, ◌⊎◌, List, [], ◌++◌, Ok, Err, ⊤}
use Rattle.std.specs.Io.KnownBytes.{Appends}
use Rattle.std.specs.declared.result.Result.{Result}
use Rattle.bern_base.specs.declared.job.Checked.{Checked}
use Rattle.bern_base.specs.declared.refusal.Refusal.TheVariants.{File, Words}
use Rattle.bern_ports.specs.Causes.{Rose}
use Rattle.bern_ports.specs.Files.{Files}
use Rattle.bern_ports.specs.Frames.{Port}
use Rattle.bern_ports.specs.declared.ports.Failed.{Failed}
use Rattle.job_files.specs.Answers.{IsRefusalOf}
use Rattle.job_files.specs.declared.load_error.LoadError.{LoadError}
use Rattle.job_files.specs.declared.load_error.LoadError.TheVariants as e
use Rattle.job_rules.specs.declared.job.CheckError.{CheckError}
use Rattle.job_rules.specs.declared.job.CheckError.TheVariants as c
use Rattle.bern_top.specs.Endings.{Ending, Done, Refuses, Ends, IsReached, ReachesFile, ReachesInBytes, ReachesInJob, Runs, RunsBytes, RunsJob}
use Rattle.bern_top.specs.declared.requests.Request.{Request}
use Rattle.bern_top.specs.declared.requests.WordsError.{WordsError}
use Rattle.bern_top.specs.declared.requests.WordsError.TheVariants as w

-- it ends so and in no other way
abbrev pub EndsOnly : (Ending → Type 0) → Ending → Type 0
EndsOnly run ending = run ending × ((other : Ending) → run other → other ≡ ending)

-- a text is the ending, a refusal is the ending, a fault is at a name that is reached; want of memory is free
abbrev pub Agrees : (Ending → Type 0) → (List ℕ → Type 0) → Result (List ℕ) LoadError → Type 0
Agrees run reaches (Ok text) = EndsOnly run (Done text)
Agrees run reaches (Err (e.Refused refusal)) = EndsOnly run (Refuses refusal)
Agrees run reaches (Err (e.ReadFault file)) = reaches file
Agrees run reaches (Err e.NoMemory) = ⊤

-- the answer for an accepted job, for the bytes of a job file, for a request and for words
abbrev pub AnswersJob : Files → Request → Checked → Result (List ℕ) LoadError → Type 0
AnswersJob files r job result = Agrees (RunsJob files r job) (ReachesInJob files r job) result

abbrev pub AnswersBytes : Files → Request → List ℕ → Result (List ℕ) LoadError → Type 0
AnswersBytes files r bytes result = Agrees (RunsBytes files r bytes) (ReachesInBytes files r bytes) result

abbrev pub AnswersRequest : Files → Request → Result (List ℕ) LoadError → Type 0
AnswersRequest files r result = Agrees (Runs files r) (ReachesFile files r) result

abbrev pub AnswersWords : Files → List (List ℕ) → Result (List ℕ) LoadError → Type 0
AnswersWords files words result = Agrees (Ends files words) (IsReached files words) result

-- the refusal of a job file; want of memory is free
abbrev pub IsJobRefusal : List ℕ → CheckError → LoadError → Type 0
IsJobRefusal name (c.Refused line rule) fault = IsRefusalOf (File name line rule) fault
IsJobRefusal name c.NoMemory fault = fault ≡ e.NoMemory

-- the refusal of words, or want of memory
abbrev pub IsWordsRefusal : WordsError → LoadError → Type 0
IsWordsRefusal (w.Refused rule) fault = fault ≡ e.Refused (Words rule)
IsWordsRefusal w.NoMemory fault = fault ≡ e.NoMemory

-- a sink grew by a part from the front of these bytes, not the whole, and its count rose
pub record StopsWithin (port : Port) (bytes : List ℕ) : Type 0 where
  pub front : List ℕ
  pub rest : List ℕ
  pub parts : bytes ≡ front ++ rest
  pub some : rest ≢ []
  pub appends : Appends port.old port.new front
  pub rose : Rose port.before port.now

-- it grew by all of these bytes, or stopped within them
abbrev pub Writes : Port → List ℕ → Result (Unit {0}) Failed → Type 0
Writes port bytes (Ok done) = Appends port.old port.new bytes
Writes port bytes (Err failed) = StopsWithin port bytes

-- it grew by a line, or stopped within it because a write failed
abbrev pub HasLine : Port → List ℕ → Type 0
HasLine port line = Appends port.old port.new line ⊎ StopsWithin port line
