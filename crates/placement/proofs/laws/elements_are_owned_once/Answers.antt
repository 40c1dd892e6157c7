use Rattle.placement.proofs.ElementLemmas.{elements-are-owned-once}
use Rattle.placement.proofs.laws.elements_are_owned_once.Goals as goal

pub returns : goal.returns
returns c = elements-are-owned-once
