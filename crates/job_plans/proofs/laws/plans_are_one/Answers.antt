use Rattle.job_plans.proofs.OnceLemmas.{least_once, least_there}
use Rattle.job_plans.proofs.laws.plans_are_one.Goals as goal

pub returns : goal.returns
returns c = λ job stats. let (plans, least) = least_there job stats in (plans, least, λ other is. least_once job stats other plans is least)
