use Rattle.std.proofs.Common.{Some, option_map, sym, ap, ◌∙◌, arith}
use Rattle.std.proofs.lemmas.Result.{err_from_is_err_and}
use Rattle.job_text.specs.Reading.{seen, named}
use Rattle.job_text.specs.NestReading.{span_at, name_at, vars_from}
use Rattle.job_text.proofs.ListLemmas.{carries_first, carries_fail, carries_end, carries_on}
use Rattle.job_text.proofs.StopLemmas.{gives_err}
use Rattle.job_text.proofs.nests.variables_from.Goals as goal

pub loop-vars-init : goal.loop-vars-init
loop-vars-init c = record {
  carries = λ n below. rw c.new-vars.ensures (carries_first span_at name_at n c.args.first.now c.args.tokens.now below);
  within = omega arith;
}

pub returns-in_err-var-clause-value : goal.returns-in_err-var-clause-value
returns-in_err-var-clause-value c = λ n below.
    let all = vars_from n c.args.first.now c.args.tokens.now in
    gives_err seen c.from_residual.result c.in_err-var.field-0.0 (span_at c.loop-vars.name.now c.loop-vars.rest.now) all (err_from_is_err_and c.from_residual.result c.from_residual.ensures.1) c.in_err-var.ensures.value
    (carries_fail span_at name_at c.loop-vars.vars c.loop-vars.name.now c.loop-vars.rest.now all (c.loop-vars.invariant.carries n below))

pub loop-vars-preserved : goal.loop-vars-preserved
loop-vars-preserved c =
    let within = c.loop-vars.invariant.within in
    let var = c.in_ok-var.ensures.shorter in
    let next = c.in-Some.ensures.shorter in
    record {
      carries = λ n below. rw c.in_ok-vars-in-Some.ensures (carries_on span_at name_at c.loop-vars.vars c.loop-vars.name.now c.loop-vars.rest.now
          (vars_from n c.args.first.now c.args.tokens.now) (c.loop-vars.invariant.carries n below) c.in-Some.next.now c.in_ok-var.after.now c.in-Some.more.now c.in_ok-var.var
          c.in_ok-var.ensures.value (sym c.next_name.ensures.value ∙ ap (option_map named) c.in-Some.is) (omega arith));
      within = omega arith;
    }

pub returns-in-None-clause-value : goal.returns-in-None-clause-value
returns-in-None-clause-value c = λ n below.
    carries_end span_at name_at c.loop-vars.vars c.loop-vars.name.now c.loop-vars.rest.now (vars_from n c.args.first.now c.args.tokens.now) (c.loop-vars.invariant.carries n below)
    c.in_ok-var.after.now c.in_ok-var.var c.in_ok-var.ensures.value (sym c.next_name.ensures.value ∙ ap (option_map named) c.in-None.is)
    ∙ ap (λ items. Some (items, c.in_ok-var.after.now)) (sym c.in_ok-with_last-in-None.ensures)
