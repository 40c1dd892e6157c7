-- A text has one answer.
use Rattle.std.proofs.Common.{◌≡◌, ◌∙◌, inl, inr, ℕ, List, [], ◌∷◌, Option, Some, None, sym}
use Rattle.bern_base.specs.declared.job.Checked.{Checked}
use Rattle.bern_base.specs.declared.raw.JobLine.{JobLine}
use Rattle.bern_base.specs.declared.raw.JobText.{JobText}
use Rattle.bern_base.specs.declared.refusal.Rule.{Rule}
use Rattle.job_rules.specs.State.{State, start}
use Rattle.job_rules.specs.Rules.{broken_rule}
use Rattle.job_rules.specs.After.{after}
use Rattle.job_rules.specs.First.{AcceptsFrom, RefusesFrom, HasOneAnswer}

same_some : (o : Option Rule) (r s : Rule) → o ≡ Some r → o ≡ Some s → r ≡ s
same_some o r s first second = cc

not_both : (o : Option Rule) (r : Rule) → o ≡ Some r → o ≡ None → ⊥
not_both o r some none = cc

one_job : (state : State) (lines : List JobLine) (broken : Option ℕ) (a b : Checked) → AcceptsFrom state lines broken a → AcceptsFrom state lines broken b → a ≡ b
one_job state [] None a b first second = first ∙ sym second
one_job state [] (Some line) a b first second = absurd first
one_job state (l ∷ lines) broken a b first second = one_job (after state l.number l.form) lines broken a b first.1 second.1

one_refusal : (state : State) (lines : List JobLine) (broken : Option ℕ) (a b : ℕ) (r s : Rule) → RefusesFrom state lines broken a r → RefusesFrom state lines broken b s → (a ≡ b) × (r ≡ s)
one_refusal state [] None a b r s first second = absurd first
one_refusal state [] (Some line) a b r s first second = (first.0 ∙ sym second.0, first.1 ∙ sym second.1)
one_refusal state (l ∷ lines) broken a b r s first second = elim first [
  | inl here ↦ elim second [
    | inl there ↦ (here.1 ∙ sym there.1, same_some (broken_rule state l.form) r s here.0 there.0)
    | inr later ↦ absurd (not_both (broken_rule state l.form) r here.0 later.0)
  ]
  | inr later ↦ elim second [
    | inl there ↦ absurd (not_both (broken_rule state l.form) s there.0 later.0)
    | inr rest ↦ one_refusal (after state l.number l.form) lines broken a b r s later.1 rest.1
  ]
]

never_both : (state : State) (lines : List JobLine) (broken : Option ℕ) (a : Checked) (b : ℕ) (s : Rule) → AcceptsFrom state lines broken a → RefusesFrom state lines broken b s → ⊥
never_both state [] None a b s first second = second
never_both state [] (Some line) a b s first second = first
never_both state (l ∷ lines) broken a b s first second = elim second [
  | inl there ↦ not_both (broken_rule state l.form) s there.0 first.0
  | inr rest ↦ never_both (after state l.number l.form) lines broken a b s first.1 rest.1
]

pub one_answer : (text : JobText) → HasOneAnswer text
one_answer text = record {
  job = λ a b first second. one_job start text.lines text.broken a b first second;
  line = λ a b r s first second. (one_refusal start text.lines text.broken a b r s first second).0;
  rule = λ a b r s first second. (one_refusal start text.lines text.broken a b r s first second).1;
  apart = λ a b s first second. never_both start text.lines text.broken a b s first second;
}
