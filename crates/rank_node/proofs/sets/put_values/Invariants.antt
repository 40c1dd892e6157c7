-- The values so far stand at their elements.
use Rattle.rank_node.specs.Sets.{ArePut}
use Rattle.rank_node.proofs.sets.put_values.Given as goal

abbrev pub invariant-loop-at : goal.invariant-loop-at
invariant-loop-at l = ArePut l.elements l.values l.at l.initial.known.items l.known.items
