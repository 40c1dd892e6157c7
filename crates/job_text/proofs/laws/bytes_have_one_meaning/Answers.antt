use Rattle.job_text.proofs.JobLemmas.{one_meaning}
use Rattle.job_text.proofs.laws.bytes_have_one_meaning.Goals as goal

pub returns : goal.returns
returns c = one_meaning
