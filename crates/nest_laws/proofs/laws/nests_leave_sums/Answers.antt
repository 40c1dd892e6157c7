use Rattle.nest_laws.proofs.NestLemmas.{nests-leave_sums}
use Rattle.nest_laws.proofs.laws.nests_leave_sums.Goals as goal

pub returns : goal.returns
returns c = nests-leave_sums
