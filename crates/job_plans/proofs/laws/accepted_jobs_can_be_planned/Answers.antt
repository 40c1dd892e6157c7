use Rattle.job_plans.proofs.LawLemmas.{can_plan}
use Rattle.job_plans.proofs.laws.accepted_jobs_can_be_planned.Goals as goal

pub returns : goal.returns
returns c = λ job ms can. can_plan job ms can
