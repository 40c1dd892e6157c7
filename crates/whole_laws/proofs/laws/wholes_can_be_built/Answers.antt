use Rattle.whole_laws.proofs.BuildLemmas.{wholes-can-be-built}
use Rattle.whole_laws.proofs.laws.wholes_can_be_built.Goals as goal

pub returns : goal.returns
returns c = wholes-can-be-built
