-- The answer to a job text: the first refusal, by its line and then by the order of the rules, or the job with numbers for names.
use Rattle.std.specs.Prelude.{◌≡◌, ◌⊎◌, ℕ, List, [], ◌∷◌, Option, Some, None}
use Rattle.bern_base.specs.declared.job.Checked.{Checked}
use Rattle.bern_base.specs.declared.raw.JobLine.{JobLine}
use Rattle.bern_base.specs.declared.raw.JobText.{JobText}
use Rattle.bern_base.specs.declared.refusal.Rule.{Rule}
use Rattle.bern_base.specs.declared.refusal.Rule.TheVariants as r
use Rattle.bern_base.specs.declared.raw.Form.{Form}
use Rattle.std.specs.List.{All}
use Rattle.bern_base.specs.declared.raw.Form.TheVariants as form
use Rattle.job_rules.specs.declared.job.CheckError.{CheckError}
use Rattle.job_rules.specs.declared.job.CheckError.TheVariants as error
use Rattle.job_rules.specs.Looked.{IsReadableNest}
use Rattle.job_rules.specs.declared.stop.Stop.{Stop}
use Rattle.job_rules.specs.declared.stop.Stop.TheVariants as stop
use Rattle.job_rules.specs.State.{State, start}
use Rattle.job_rules.specs.Rules.{broken_rule}
use Rattle.job_rules.specs.After.{after}

-- the first line that breaks a rule breaks this one first; after all lines comes the one without a form, which is J2
abbrev pub RefusesFrom : State → List JobLine → Option ℕ → ℕ → Rule → Type 0
RefusesFrom state [] None line rule = ⊥
RefusesFrom state [] (Some broken) line rule = (line ≡ broken) × (rule ≡ r.J2)
RefusesFrom state (first ∷ lines) broken line rule =
    ((broken_rule state first.form ≡ Some rule) × (line ≡ first.number))
    ⊎ ((broken_rule state first.form ≡ None) × RefusesFrom (after state first.number first.form) lines broken line rule)

-- no line breaks a rule and each has a form; the job is what they add up to
abbrev pub AcceptsFrom : State → List JobLine → Option ℕ → Checked → Type 0
AcceptsFrom state [] None job = job ≡ state.job
AcceptsFrom state [] (Some broken) job = ⊥
AcceptsFrom state (first ∷ lines) broken job = (broken_rule state first.form ≡ None) × AcceptsFrom (after state first.number first.form) lines broken job

abbrev pub Refuses : JobText → ℕ → Rule → Type 0
Refuses text line rule = RefusesFrom start text.lines text.broken line rule

abbrev pub Accepts : JobText → Checked → Type 0
Accepts text job = AcceptsFrom start text.lines text.broken job

-- a line joins the job: it breaks no rule, and this is what stands after it
pub record Joins (old new : State) (line : ℕ) (form : Form) : Type 0 where
  pub unbroken : broken_rule old form ≡ None
  pub after : new ≡ after old line form

-- the first rule that a line breaks is the one that stops it
abbrev pub StopsAt : Option Rule → Stop → Type 0
StopsAt first (stop.Broken rule) = first ≡ Some rule
StopsAt first stop.NoMemory = Unit {0}

-- what a reader of job texts gives, as far as the rules rest on it: sums are short, their numbers small, and expressions of few levels
abbrev pub IsReadableForm : Form → Type 0
IsReadableForm (form.Nest nest) = IsReadableNest nest
IsReadableForm other = Unit {0}

abbrev pub IsReadableText : JobText → Type 0
IsReadableText text = All (λ line. IsReadableForm line.form) text.lines

abbrev pub RefusesAs : JobText → CheckError → Type 0
RefusesAs text (error.Refused line rule) = Refuses text line rule
RefusesAs text error.NoMemory = Unit {0}

-- what is left of a text from a line on, where this stands before it, has the answers of the whole
pub record Leads (state : State) (lines : List JobLine) (text : JobText) : Type 0 where
  pub accepts : (job : Checked) → AcceptsFrom state lines text.broken job → Accepts text job
  pub refuses : (line : ℕ) (rule : Rule) → RefusesFrom state lines text.broken line rule → Refuses text line rule

-- a text has one answer: one job, or one line and rule, and never both
pub record HasOneAnswer (text : JobText) : Type 0 where
  pub job : (a b : Checked) → Accepts text a → Accepts text b → a ≡ b
  pub line : (a b : ℕ) (r s : Rule) → Refuses text a r → Refuses text b s → a ≡ b
  pub rule : (a b : ℕ) (r s : Rule) → Refuses text a r → Refuses text b s → r ≡ s
  pub apart : (a : Checked) (b : ℕ) (s : Rule) → Accepts text a → ¬ (Refuses text b s)
