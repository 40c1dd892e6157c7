-- Each sum has grown by the terms of the entries so far.
use Rattle.rank_node.specs.Sums.{inner_term}
use Rattle.rank_node.proofs.SumLemmas.{IsSummed}
use Rattle.rank_node.proofs.sums.add_inner.Given as goal

abbrev pub invariant-loop-entry : goal.invariant-loop-entry
invariant-loop-entry g l = IsSummed (inner_term (g.P.Placement.triples l.place) l.rank l.own) l.entries l.initial.sums.items l.entry-index l.sums.items
