use Rattle.whole_laws.proofs.HeldLemmas.{built-arrays-are_held}
use Rattle.whole_laws.proofs.laws.built_arrays_are_held.Goals as goal

pub returns : goal.returns
returns c = built-arrays-are_held
