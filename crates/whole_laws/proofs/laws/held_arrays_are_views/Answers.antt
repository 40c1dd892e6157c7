use Rattle.whole_laws.proofs.HeldLemmas.{held-arrays-are_views}
use Rattle.whole_laws.proofs.laws.held_arrays_are_views.Goals as goal

pub returns : goal.returns
returns c = held-arrays-are_views
