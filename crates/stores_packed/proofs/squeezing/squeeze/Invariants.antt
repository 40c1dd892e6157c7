use Rattle.stores_packed.proofs.RangeLemmas.{AreKept}
use Rattle.stores_packed.proofs.squeezing.squeeze.Given as goal

abbrev pub invariant-keeping : goal.invariant-keeping
invariant-keeping l = AreKept l.from l.line l.outers.items l.starts.items
