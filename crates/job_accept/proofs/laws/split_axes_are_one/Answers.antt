use Rattle.job_accept.proofs.AxisLemmas.{splits_one}
use Rattle.job_accept.proofs.laws.split_axes_are_one.Goals as goal

pub returns : goal.returns
returns c = splits_one
