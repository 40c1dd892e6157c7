-- Below `next` each index has one of the entries so far, and none of these has an index from there on. As long as no index had two, the
-- entries so far are the first indices.
use Rattle.placement.proofs.RanksLemmas.{IsReached}
use Rattle.placement.proofs.listed.has_gap.Given as goal

abbrev pub invariant-loop-entry : goal.invariant-loop-entry
invariant-loop-entry l = IsReached l.entries l.entry-index l.next
