use Rattle.job_accept.proofs.VariableLemmas.{nests_have_variables}
use Rattle.job_accept.proofs.laws.nests_have_variables.Goals as goal

pub returns : goal.returns
returns c = nests_have_variables
