use Rattle.std.proofs.Common.{◌≡◌, ◌∙◌, ◌∷◌, length, sym, ap, subst, arith}
use Rattle.std.specs.Vec.Iter.{into_iter_items}
use Rattle.term_model.specs.declared.plan.PlannedTerm.{PlannedTerm}
use Rattle.job_plans.proofs.PlanLemmas.{ArePlannedSo, all_planned, first_can, none_left, planned_more}
use Rattle.job_plans.proofs.planning.scheduled.Goals as goal

pub schedule-requires : goal.schedule-requires
schedule-requires c =
    first_can c.args.job.now c.args.stats.now c.args.nest.now c.loop-term.planned c.in-Some.term (into_iter_items c.loop-term.term-iterator) (into_iter_items c.next.new.self) c.in-Some.ensures.steps.0 c.loop-term.invariant.0

pub loop-term-preserved : goal.loop-term-preserved
loop-term-preserved c =
    let inv = c.loop-term.invariant in
    let steps : into_iter_items c.loop-term.term-iterator ≡ c.in-Some.term ∷ into_iter_items c.next.new.self = c.in-Some.ensures.steps.0 in
    let p : PlannedTerm = record { term = c.in-Some.term; plan = c.in_ok-plan.plan; cost = c.in_ok-plan.cost } in (
      subst (λ planned. ArePlannedSo c.args.job.now c.args.stats.now c.args.nest.now planned (into_iter_items c.next.new.self)) (sym c.in_ok-push.ensures.ok)
          (planned_more c.args.job.now c.args.stats.now c.args.nest.now c.loop-term.planned p (into_iter_items c.loop-term.term-iterator) (into_iter_items c.next.new.self) steps c.in_ok-plan.ensures.least inv.0),
      (let was = inv.1 in let gone = c.in-Some.ensures.steps.1 in let short = ap length steps in omega arith),
    )

pub returns : goal.returns
returns c =
    all_planned c.args.job.now c.args.stats.now c.args.nest.now c.loop-term.planned (into_iter_items c.loop-term.term-iterator)
    (none_left (into_iter_items c.loop-term.term-iterator) (sym c.loop-term.invariant.1 ∙ c.in-None.ensures.steps.0)) c.loop-term.invariant.0
