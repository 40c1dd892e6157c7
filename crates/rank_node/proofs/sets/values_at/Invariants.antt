-- The values of the elements so far.
use Rattle.std.proofs.Common.{◌≡◌, take}
use Rattle.rank_node.specs.Sets.{own_values}
use Rattle.rank_node.proofs.sets.values_at.Given as goal

abbrev pub invariant-loop-element : goal.invariant-loop-element
invariant-loop-element g l = l.values.items ≡ own_values (g.P.Placement.triples l.place) l.own (take l.element-index l.elements)
