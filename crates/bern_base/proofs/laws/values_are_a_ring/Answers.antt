use Rattle.bern_base.proofs.RingLemmas.{values-are-a-ring}
use Rattle.bern_base.proofs.laws.values_are_a_ring.Goals as goal

pub returns : goal.returns
returns c = values-are-a-ring
