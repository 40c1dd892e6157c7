use Rattle.std.proofs.Common.{◌≡◌, ◌∙◌, ℕ, ◌≤◌, length, sym, subst}
use Rattle.std.proofs.lemmas.List.{drop_all}
use Rattle.term_model.specs.declared.plan.PlanStep.{PlanStep}
use Rattle.term_model.specs.Plans.{Query, first_known}
use Rattle.join_plan.specs.Tasks.{query_in}
use Rattle.join_plan.proofs.CheckLemmas.{at_end, at_start, listed, one_further}
use Rattle.join_plan.proofs.TaskLemmas.{few_levels}
use Rattle.join_plan.proofs.checking.is_plan.Goals as goal

pub loop-step-init : goal.loop-step-init
loop-step-init c =
    at_start (query_in (record { vars = c.args.nest.now.vars; term = c.args.term.now; stats = c.args.stats.now })) c.args.plan.now.steps c.search.result.progress
    (c.search.ensures.progress (first_known (query_in (record { vars = c.args.nest.now.vars; term = c.args.term.now; stats = c.args.stats.now }))) c.beginning.ensures)

pub after-requires-clause-few : goal.after-requires-clause-few
after-requires-clause-few c = few_levels (record { vars = c.args.nest.now.vars; term = c.args.term.now; stats = c.args.stats.now }) c.requires

pub loop-step-preserved : goal.loop-step-preserved
loop-step-preserved c =
    let q : Query = query_in (record { vars = c.args.nest.now.vars; term = c.args.term.now; stats = c.args.stats.now }) in
    let way = c.loop-step.invariant in
    let ready = sym (c.is_ready.ensures way.known way.knows) ∙ c.if-not-is_ready.false in
    one_further q c.args.plan.now.steps c.loop-step.step-index c.as_slice-step-items.result.now _ c.loop-step.progress c.search-in-loop-step.result.progress
    way c.as_slice-step-items.ensures c.loop-step-test.true ready (c.search-in-loop-step.ensures.progress _ (c.after.ensures way.known way.knows ready))

pub returns : goal.returns
returns c = λ bound.
    let q : Query = query_in (record { vars = c.args.nest.now.vars; term = c.args.term.now; stats = c.args.stats.now }) in
    let way = c.loop-step.invariant in
    listed c.args.nest.now c.args.term.now c.args.stats.now c.args.plan.now.steps
    (at_end q c.args.plan.now.steps c.loop-step.step-index c.loop-step.progress way
    (drop_all c.loop-step.step-index c.args.plan.now.steps (subst (λ ss. length {A = PlanStep} ss ≤ c.loop-step.step-index) c.as_slice-step-items.ensures c.loop-step-test.false))
    (sym (c.is_bound.ensures way.known way.knows) ∙ bound))
