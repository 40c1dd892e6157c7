use Rattle.std.proofs.Common.{Some, option_map, sym, ap, ◌∙◌, arith}
use Rattle.std.proofs.lemmas.Result.{err_from_is_err_and}
use Rattle.job_text.specs.Reading.{seen, following}
use Rattle.job_text.specs.NestReading.{guard_at, comma_at, guards_from}
use Rattle.job_text.proofs.ListLemmas.{carries_first, carries_fail, carries_end, carries_on}
use Rattle.job_text.proofs.StopLemmas.{gives_err}
use Rattle.job_text.proofs.nests.guards_from.Goals as goal

pub loop-guards-init : goal.loop-guards-init
loop-guards-init c = record {
  carries = λ n below. rw c.new-guards.ensures (carries_first guard_at comma_at n tt c.args.tokens.now below);
  within = omega arith;
}

pub returns-in_err-guard-clause-value : goal.returns-in_err-guard-clause-value
returns-in_err-guard-clause-value c = λ n below.
    let all = guards_from n c.args.tokens.now in
    gives_err seen c.from_residual.result c.in_err-guard.field-0.0 (guard_at tt c.loop-guards.rest.now) all (err_from_is_err_and c.from_residual.result c.from_residual.ensures.1) c.in_err-guard.ensures.value
    (carries_fail guard_at comma_at c.loop-guards.guards tt c.loop-guards.rest.now all (c.loop-guards.invariant.carries n below))

pub loop-guards-preserved : goal.loop-guards-preserved
loop-guards-preserved c =
    let within = c.loop-guards.invariant.within in
    let guard = c.in_ok-guard.ensures.shorter in
    let next = c.in-Some.ensures.shorter in
    record {
      carries = λ n below. rw c.in_ok-guards-in-Some.ensures (carries_on guard_at comma_at c.loop-guards.guards tt c.loop-guards.rest.now
          (guards_from n c.args.tokens.now) (c.loop-guards.invariant.carries n below) tt c.in_ok-guard.after.now c.in-Some.next.now c.in_ok-guard.guard
          c.in_ok-guard.ensures.value (sym c.next_comma.ensures.value ∙ ap (option_map following) c.in-Some.is) (omega arith));
      within = omega arith;
    }

pub returns-in-None-clause-value : goal.returns-in-None-clause-value
returns-in-None-clause-value c = λ n below.
    carries_end guard_at comma_at c.loop-guards.guards tt c.loop-guards.rest.now (guards_from n c.args.tokens.now) (c.loop-guards.invariant.carries n below)
    c.in_ok-guard.after.now c.in_ok-guard.guard c.in_ok-guard.ensures.value (sym c.next_comma.ensures.value ∙ ap (option_map following) c.in-None.is)
    ∙ ap (λ items. Some (items, c.in_ok-guard.after.now)) (sym c.in_ok-with_last-in-None.ensures)
