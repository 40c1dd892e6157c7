use Rattle.std.proofs.Common.{sym, subst}
use Rattle.std.specs.List.{All}
use Rattle.job_plans.proofs.LawLemmas.{can_plan}
use Rattle.job_plans.specs.Least.{CanPlan}
use Rattle.bern_top.proofs.PlanLemmas.{text_planned}
use Rattle.bern_top.proofs.texts.text_of_plans.Goals as goal

pub measured-requires-clause-count : goal.measured-requires-clause-count
measured-requires-clause-count c = c.requires.can.count

pub plans-requires : goal.plans-requires
plans-requires c =
    subst (λ stats. All (CanPlan c.args.job.now stats) c.args.job.now.nests) (sym c.in_ok-stats.ensures) (can_plan c.args.job.now c.args.matrices.now c.requires.can)

pub returns : goal.returns
returns c = text_planned c.args.job.now c.args.matrices.now c.in_ok-stats.stats c.in_ok-plans.plans c.plan_text.result c.in_ok-stats.ensures c.in_ok-plans.ensures c.plan_text.ensures
