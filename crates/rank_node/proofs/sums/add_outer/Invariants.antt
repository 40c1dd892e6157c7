-- Each sum has grown by the terms of the entries so far.
use Rattle.rank_node.specs.Sums.{outer_term}
use Rattle.rank_node.proofs.SumLemmas.{IsSummed}
use Rattle.rank_node.proofs.sums.add_outer.Given as goal

abbrev pub invariant-loop-entry : goal.invariant-loop-entry
invariant-loop-entry g l = IsSummed (outer_term (g.P.Placement.triples l.place) l.rank l.known) l.entries l.initial.sums.items l.entry-index l.sums.items
