-- The values of the arrays so far.
use Rattle.rank_node.specs.Holdings.{AreHeld}
use Rattle.rank_node.proofs.holdings.all_values.Given as goal

abbrev pub invariant-loop-at : goal.invariant-loop-at
invariant-loop-at l = AreHeld l.job l.parts l.at l.values.items
