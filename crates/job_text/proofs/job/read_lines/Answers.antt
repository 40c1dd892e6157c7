use Rattle.std.proofs.Common.{◌≡◌, ◌+◌, ◌∷◌, Err, Some, None, true, drop, ap, ◌∙◌, subst, arith}
use Rattle.std.proofs.lemmas.List.{drop_all}
use Rattle.job_text.specs.Lines.{said, is_some_text}
use Rattle.job_text.specs.Job.{numbered, IsRead, HasNoForm, AddsLine}
use Rattle.job_text.proofs.JobLemmas.{Carries, carries_first, carries_end, carries_broken, carries_on}
use Rattle.job_text.proofs.PlaceLemmas.{drop_at}
use Rattle.job_text.proofs.job.read_lines.Goals as goal

pub loop-line-init : goal.loop-line-init
loop-line-init c = record {
  counts = omega arith;
  reads = rw c.new-forms.ensures (carries_first c.deref-line-items.result.now);
}

pub returns-in-Err-NoForm : goal.returns-in-Err-NoForm
returns-in-Err-NoForm c =
    let texts = c.deref-line-items.result.now in
    let i = c.loop-line.line-index in
    let line = c.line-item.result in
    let all = numbered 1 texts in
    let here = drop_at texts i line c.loop-line-test.true c.line-item.is in
    let left : Carries all c.loop-line.number (line ∷ drop (i + 1) texts) c.loop-line.forms = subst (λ l. Carries all c.loop-line.number l c.loop-line.forms) here c.loop-line.invariant.reads in
    let same_forms = c.in-Err-NoForm.ensures.same (ap Err c.in-Err-NoForm.field-0-is) in
    let none = c.in-Err-NoForm.ensures.none (ap Err c.in-Err-NoForm.field-0-is) in
    let said_is = ap said c.bytes.ensures in
    let read = carries_broken all c.loop-line.number line (drop (i + 1) texts) c.loop-line.forms left (subst (λ t. is_some_text t ≡ true) said_is none.0) (subst HasNoForm said_is none.1) in
    let same = c.deref-line-items.ensures.value ∙ c.in_ok-texts.ensures in
    rw same_forms (subst (λ ts. IsRead (numbered 1 ts) c.loop-line.forms (Some c.loop-line.number)) same read)

pub loop-line-preserved : goal.loop-line-preserved
loop-line-preserved c =
    let texts = c.deref-line-items.result.now in
    let i = c.loop-line.line-index in
    let line = c.line-item.result in
    let all = numbered 1 texts in
    let here = drop_at texts i line c.loop-line-test.true c.line-item.is in
    let left : Carries all c.loop-line.number (line ∷ drop (i + 1) texts) c.loop-line.forms = subst (λ l. Carries all c.loop-line.number l c.loop-line.forms) here c.loop-line.invariant.reads in
    record {
      counts = omega arith;
      reads = carries_on all c.loop-line.number line (drop (i + 1) texts) c.loop-line.forms left c.add_line.new.forms
          (subst (λ t. AddsLine c.loop-line.number t c.loop-line.forms c.add_line.new.forms) (ap said c.bytes.ensures) c.in-Ok.ensures.ok);
    }

pub returns : goal.returns
returns c =
    let texts = c.deref-line-items.result.now in
    let all = numbered 1 texts in
    let none = drop_all c.loop-line.line-index texts c.loop-line-test.false in
    let read = carries_end all c.loop-line.number c.loop-line.forms (subst (λ l. Carries all c.loop-line.number l c.loop-line.forms) none c.loop-line.invariant.reads) in
    let same = c.deref-line-items.ensures.value ∙ c.in_ok-texts.ensures in
    subst (λ ts. IsRead (numbered 1 ts) c.loop-line.forms None) same read
