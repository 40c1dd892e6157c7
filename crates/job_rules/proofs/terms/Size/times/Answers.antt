use Rattle.std.proofs.Common.{arith, ◌*◌, ◌∙◌, ap, min}
use Rattle.job_rules.proofs.TermLemmas.{times_some, times_none}
use Rattle.job_rules.proofs.terms.Size.times.Goals as goal

pub returns-then-terms-eq0 : goal.returns-then-terms-eq0
returns-then-terms-eq0 c = λ xs ys first second.
    let n = ap (λ k. k * c.min-2.result) c.min.ensures ∙ ap (λ k. min c.args.self.terms 17 * k) c.min-2.ensures in
    times_none c.args.self c.args.other xs ys _ first second n c.if-terms-eq0.true

pub returns : goal.returns
returns c = λ xs ys first second.
    let n = ap (λ k. k * c.min-2.result) c.min.ensures ∙ ap (λ k. min c.args.self.terms 17 * k) c.min-2.ensures in
    times_some c.args.self c.args.other xs ys _ _ _ first second n c.if-terms-eq0.false (omega arith) (omega arith)
