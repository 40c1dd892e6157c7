use Rattle.job_accept.proofs.AmongLemmas.{places_among}
use Rattle.job_accept.proofs.laws.places_stand_among_arrays.Goals as goal

pub returns : goal.returns
returns c = places_among
