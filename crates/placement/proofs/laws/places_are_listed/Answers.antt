use Rattle.placement.proofs.PlaceLemmas.{places-are-listed}
use Rattle.placement.proofs.laws.places_are_listed.Goals as goal

pub returns : goal.returns
returns c = places-are-listed
