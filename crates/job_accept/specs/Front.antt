-- What bytes are as a job.
use Rattle.std.specs.Prelude.{◌≡◌, ◌⊎◌, ℕ, ◌<◌, ◌≤◌, List, length}
use Rattle.bern_base.specs.declared.job.Checked.{Checked}
use Rattle.bern_base.specs.declared.limits.TheConstants.{MOST_JOB_BYTES}
use Rattle.bern_base.specs.declared.raw.JobText.{JobText}
use Rattle.bern_base.specs.declared.refusal.Rule.{Rule}
use Rattle.bern_base.specs.declared.refusal.Rule.TheVariants as r
use Rattle.job_rules.specs.declared.job.CheckError.{CheckError}
use Rattle.job_rules.specs.declared.job.CheckError.TheVariants as error
use Rattle.job_rules.specs.First.{Accepts, Refuses}
use Rattle.job_text.specs.Job.{IsJob}

-- the bytes are not too many, and this is their text
pub record IsReadAs (bytes : List ℕ) (text : JobText) : Type 0 where
  pub fits : length bytes ≤ MOST_JOB_BYTES
  pub is : IsJob bytes text

-- the bytes are too many, which is J1 at line 0
pub record IsTooLong (bytes : List ℕ) (line : ℕ) (rule : Rule) : Type 0 where
  pub long : MOST_JOB_BYTES < length bytes
  pub line_is : line ≡ 0
  pub rule_is : rule ≡ r.J1

-- the bytes are a job text that the rules accept
abbrev pub AcceptsBytes : List ℕ → Checked → Type 0
AcceptsBytes bytes job = (text : JobText) × IsReadAs bytes text × Accepts text job

-- they are too many, or a job text that the rules refuse
abbrev pub RefusesAt : List ℕ → ℕ → Rule → Type 0
RefusesAt bytes line rule = IsTooLong bytes line rule ⊎ ((text : JobText) × IsReadAs bytes text × Refuses text line rule)

-- an answer that is no job says which line is refused by which rule; want of memory says nothing
abbrev pub SaysWhere : (ℕ → Rule → Type 0) → CheckError → Type 0
SaysWhere At (error.Refused line rule) = At line rule
SaysWhere At error.NoMemory = Unit {0}

abbrev pub RefusesBytes : List ℕ → CheckError → Type 0
RefusesBytes bytes answer = SaysWhere (RefusesAt bytes) answer

-- bytes have one answer: one job, or one line and rule, and never both
pub record HasOneAnswer (bytes : List ℕ) : Type 0 where
  pub job : (a b : Checked) → AcceptsBytes bytes a → AcceptsBytes bytes b → a ≡ b
  pub line : (a b : ℕ) (r s : Rule) → RefusesAt bytes a r → RefusesAt bytes b s → a ≡ b
  pub rule : (a b : ℕ) (r s : Rule) → RefusesAt bytes a r → RefusesAt bytes b s → r ≡ s
  pub apart : (a : Checked) (b : ℕ) (s : Rule) → AcceptsBytes bytes a → ¬ (RefusesAt bytes b s)

abbrev pub BytesHaveOneAnswer : Type 0
BytesHaveOneAnswer = (bytes : List ℕ) → HasOneAnswer bytes
