use Rattle.job_files.proofs.JobLemmas.{job_missing, job_reaches}
use Rattle.job_files.proofs.laws.files_are_reached.Goals as goal

pub returns : goal.returns
returns c = record {
  missing = λ files name ranks job file stop. job_missing files name ranks job file stop;
  all = λ files name ranks job file fine there. job_reaches files name ranks job file fine there;
}
