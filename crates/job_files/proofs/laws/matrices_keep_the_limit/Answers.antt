use Rattle.job_files.proofs.JobLemmas.{job_keeps}
use Rattle.job_files.proofs.laws.matrices_keep_the_limit.Goals as goal

pub returns : goal.returns
returns c = λ files name ranks job ms loads. job_keeps files name ranks job ms loads
