use Rattle.std.proofs.Common.{◌≡◌, ◌∙◌, ◌++◌, ◌+◌, List, ℕ, take, get_or, sym, ap, subst, append_assoc}
use Rattle.std.proofs.lemmas.List.{take_more}
use Rattle.term_model.specs.declared.plan.PlanStep.{PlanStep}
use Rattle.term_model.specs.declared.plan.PlanStep.TheVariants as step
use Rattle.join_plan.specs.PlanText.{step_line, steps_text, unused}
use Rattle.join_plan.specs.Progress.{Marks}
use Rattle.join_plan.proofs.TextLemmas.{bound_by, bound_more, steps_more}
use Rattle.join_plan.proofs.text.append_steps.Goals as goal

pub loop-step-preserved : goal.loop-step-preserved
loop-step-preserved c =
    let inv = c.loop-step.invariant in
    let vs : List ℕ = unused c.args.nest.now in
    let t = c.args.term.now in
    let done : List PlanStep = take c.loop-step.step-index c.args.steps.now in
    let more = take_more c.args.steps.now c.loop-step.step-index (step.Range 0) c.loop-step-test.true in
    let s : PlanStep = get_or c.args.steps.now c.loop-step.step-index (step.Range 0) in (
      subst (λ steps. Marks (bound_by t vs steps) c.bound_after-bound.result) (sym more)
          (subst (λ bound. Marks bound c.bound_after-bound.result) (sym (bound_more t vs done s)) (c.bound_after-bound.ensures (bound_by t vs done) inv.0)),
      c.in_ok-append_step.ensures (bound_by t vs done) inv.0
          ∙ ap (λ o. o ++ step_line c.args.job.now c.args.nest.now t (bound_by t vs done) s) inv.1
          ∙ append_assoc c.args.out.now (steps_text c.args.job.now c.args.nest.now t vs done) (step_line c.args.job.now c.args.nest.now t (bound_by t vs done) s)
          ∙ ap (λ x. c.args.out.now ++ x) (sym (steps_more c.args.job.now c.args.nest.now t vs done s))
          ∙ ap (λ steps. c.args.out.now ++ steps_text c.args.job.now c.args.nest.now t vs steps) (sym more),
    )
