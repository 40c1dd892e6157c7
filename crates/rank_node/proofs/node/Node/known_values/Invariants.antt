-- The values of the ranks so far are known.
use Rattle.rank_node.specs.Waits.{AreKnown}
use Rattle.rank_node.proofs.node.Node.known_values.Given as goal

abbrev pub invariant-loop-from : goal.invariant-loop-from
invariant-loop-from g l = AreKnown g.run l.self.rank l.from l.known.items
