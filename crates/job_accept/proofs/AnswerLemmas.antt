-- Bytes have one answer, and what they are accepted as keeps the rules.
use Rattle.std.proofs.Common.{◌≡◌, ◌∙◌, inl, inr, ℕ, List, sym, subst, arith}
use Rattle.bern_base.specs.declared.job.Checked.{Checked}
use Rattle.bern_base.specs.declared.raw.JobText.{JobText}
use Rattle.bern_base.specs.declared.refusal.Rule.{Rule}
use Rattle.job_rules.specs.First.{Accepts, Refuses}
use Rattle.job_rules.proofs.AnswerLemmas.{one_answer}
use Rattle.job_text.proofs.JobLemmas.{one_meaning}
use Rattle.job_model.specs.Accepted.{IsAccepted}
use Rattle.job_rules.proofs.AcceptedLemmas.{accepted_keeps}
use Rattle.job_accept.proofs.ReadableLemmas.{job_readable}
use Rattle.job_accept.specs.Front.{AcceptsBytes, BytesHaveOneAnswer, IsReadAs, IsTooLong, RefusesAt}

module _ (bytes : List ℕ) where
  one_text : (a b : JobText) → IsReadAs bytes a → IsReadAs bytes b → a ≡ b
  one_text a b first second = one_meaning bytes a b first.is second.is

  too_long_to_read : (line : ℕ) (rule : Rule) (text : JobText) → IsTooLong bytes line rule → IsReadAs bytes text → ⊥
  too_long_to_read line rule text long read =
      let up = long.long in
      let down = read.fits in
      let no : ⊥ = omega (arith, up, down) in no

  one_job : (a b : Checked) → AcceptsBytes bytes a → AcceptsBytes bytes b → a ≡ b
  one_job a b first second =
      let same = one_text first.0 second.0 first.1 second.1 in
      let moved = subst (λ text. Accepts text a) same first.2 in
      (one_answer second.0).job a b moved second.2

  one_place : (a b : ℕ) (r s : Rule) → RefusesAt bytes a r → RefusesAt bytes b s → (a ≡ b) × (r ≡ s)
  one_place a b r s first second = elim first [
    | inl long ↦ elim second [
      | inl again ↦ (long.line_is ∙ sym again.line_is, long.rule_is ∙ sym again.rule_is)
      | inr read ↦ absurd (too_long_to_read a r read.0 long read.1)
    ]
    | inr read ↦ elim second [
      | inl long ↦ absurd (too_long_to_read b s read.0 long read.1)
      | inr again ↦
          (let moved = subst (λ text. Refuses text a r) (one_text read.0 again.0 read.1 again.1) read.2 in
          ((one_answer again.0).line a b r s moved again.2, (one_answer again.0).rule a b r s moved again.2))
    ]
  ]

  apart : (a : Checked) (b : ℕ) (s : Rule) → AcceptsBytes bytes a → RefusesAt bytes b s → ⊥
  apart a b s accepts refuses = elim refuses [
    | inl long ↦ too_long_to_read b s accepts.0 long accepts.1
    | inr read ↦ (one_answer accepts.0).apart a b s accepts.2 (subst (λ text. Refuses text b s) (one_text read.0 accepts.0 read.1 accepts.1) read.2)
  ]

pub one_bytes_answer : BytesHaveOneAnswer
one_bytes_answer bytes = record {
  job = one_job bytes;
  line = λ a b r s first second. (one_place bytes a b r s first second).0;
  rule = λ a b r s first second. (one_place bytes a b r s first second).1;
  apart = apart bytes;
}

-- what bytes are accepted as keeps the rules
pub bytes_are_accepted : (bytes : List ℕ) (job : Checked) → AcceptsBytes bytes job → IsAccepted job
bytes_are_accepted bytes job accepts = accepted_keeps accepts.0 job (job_readable bytes accepts.0 accepts.1.is) accepts.2
