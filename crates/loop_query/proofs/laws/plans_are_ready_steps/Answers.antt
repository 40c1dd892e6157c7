use Rattle.loop_query.proofs.PlanLemmas.{listed_plans_are_ready, ready_plans_are_listed, some_plan_is_listed}
use Rattle.loop_query.proofs.StepLemmas.{steps_bind_their_levels}
use Rattle.loop_query.proofs.laws.plans_are_ready_steps.Goals as goal

pub returns-clause-ready : goal.returns-clause-ready
returns-clause-ready c = listed_plans_are_ready

pub returns-clause-all : goal.returns-clause-all
returns-clause-all c = ready_plans_are_listed

pub returns-clause-some : goal.returns-clause-some
returns-clause-some c = some_plan_is_listed

pub returns-clause-bound : goal.returns-clause-bound
returns-clause-bound c = steps_bind_their_levels
