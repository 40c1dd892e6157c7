use Rattle.job_text.proofs.DepthLemmas.{job_shallow}
use Rattle.job_text.proofs.laws.jobs_are_shallow.Goals as goal

pub returns : goal.returns
returns c = job_shallow
