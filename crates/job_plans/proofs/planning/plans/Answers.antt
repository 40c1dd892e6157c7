use Rattle.std.proofs.Common.{◌+◌, [], ◌∷◌, ◌++◌, List, take, get_or, sym, subst}
use Rattle.std.specs.List.{AllZip}
use Rattle.std.proofs.lemmas.List.{take_more}
use Rattle.bern_base.specs.declared.job.Nest.{Nest}
use Rattle.job_plans.specs.Least.{AreScheduled}
use Rattle.job_plans.proofs.PlanLemmas.{zip_push}
use Rattle.job_plans.proofs.planning.plans.Goals as goal

pub loop-nest-preserved : goal.loop-nest-preserved
loop-nest-preserved c =
    let R = AreScheduled c.args.job.now c.args.stats.now in
    let items : List Nest = c.as_slice-nest-items.result.now in
    let item : Nest = c.nest-item.result in
    let here : Nest = get_or items c.loop-nest.nest-index item in
    subst (AllZip R (take (c.loop-nest.nest-index + 1) items)) (sym c.in_ok-push.ensures.ok)
    (subst (λ nests. AllZip R nests (c.loop-nest.nests ++ c.in_ok-scheduled.field-0 ∷ [])) (sym (take_more items c.loop-nest.nest-index item c.loop-nest-test.true))
    (zip_push R (take c.loop-nest.nest-index items) c.loop-nest.nests here c.in_ok-scheduled.field-0 c.loop-nest.invariant (subst (λ nest. R nest c.in_ok-scheduled.field-0) c.nest-item.is c.in_ok-scheduled.ensures)))
