use Rattle.job_plans.proofs.LawLemmas.{are_plans}
use Rattle.job_plans.proofs.laws.least_plans_are_plans.Goals as goal

pub returns : goal.returns
returns c = λ job ms plans can least. are_plans job ms plans can least
