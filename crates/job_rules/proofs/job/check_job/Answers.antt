-- Each line leads on, and what is accepted has its nests in order as its turns.
use Rattle.std.proofs.Common.{◌≡◌, [], drop, refl, arith}
use Rattle.std.proofs.lemmas.List.{drop_all}
use Rattle.job_rules.specs.First.{AcceptsFrom}
use Rattle.job_rules.proofs.DraftLemmas.{leads_on}
use Rattle.job_rules.proofs.TurnLemmas.{turns_in_order}
use Rattle.job_rules.proofs.job.check_job.Goals as goal

pub returns-in-None-clause-turns : goal.returns-in-None-clause-turns
returns-in-None-clause-turns c =
    let job = c.loop-line.draft.job in
    let lines = c.as_slice-line-items.result.now in
    let none : drop c.loop-line.line-index lines ≡ [] = drop_all c.loop-line.line-index lines (omega (arith, c.loop-line-test.false)) in
    let end : AcceptsFrom c.loop-line.draft (drop c.loop-line.line-index lines) c.args.text.now.broken job = rw (none, c.in-None.is) refl in
    turns_in_order c.args.text.now job (c.loop-line.invariant.accepts job end)

pub loop-line-preserved : goal.loop-line-preserved
loop-line-preserved c =
    leads_on c.loop-line.draft c.add_line.new.draft c.as_slice-line-items.result.now c.loop-line.line-index c.line-item.result c.args.text.now c.loop-line-test.true c.line-item.is c.in-Ok.ensures.ok c.loop-line.invariant
