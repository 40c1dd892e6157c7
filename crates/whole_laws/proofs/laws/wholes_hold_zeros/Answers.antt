use Rattle.whole_laws.proofs.ZeroLemmas.{wholes-hold-zeros}
use Rattle.whole_laws.proofs.laws.wholes_hold_zeros.Goals as goal

pub returns : goal.returns
returns c = wholes-hold-zeros
