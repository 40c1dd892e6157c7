use Rattle.job_accept.proofs.AxisLemmas.{axes_one}
use Rattle.job_accept.proofs.laws.outer_axes_are_one.Goals as goal

pub returns : goal.returns
returns c = axes_one
