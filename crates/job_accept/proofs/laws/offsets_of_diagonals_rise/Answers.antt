use Rattle.job_accept.proofs.OffsetLemmas.{offsets_rise}
use Rattle.job_accept.proofs.laws.offsets_of_diagonals_rise.Goals as goal

pub returns : goal.returns
returns c = offsets_rise
