use Rattle.nest_laws.proofs.NestLemmas.{states-stay}
use Rattle.nest_laws.proofs.laws.states_stay.Goals as goal

pub returns : goal.returns
returns c = states-stay
