-- The sets so far have the elements so far.
use Rattle.rank_node.proofs.SetLemmas.{AreAsked}
use Rattle.rank_node.specs.Sets.{IsMarked}
use Rattle.rank_node.proofs.sets.asked_sets.Given as goal

abbrev pub invariant-loop-element : goal.invariant-loop-element
invariant-loop-element g l = record {
  asked : AreAsked (g.P.Placement.triples l.place) l.entries l.element l.rank l.ranks l.sets.items;
  marked : IsMarked l.entries l.extent l.marks.items;
}
