-- No rank so far is due values.
use Rattle.std.proofs.Common.{◌≡◌}
use Rattle.rank_node.specs.Positions.{from_values}
use Rattle.rank_node.proofs.settle.next_values.Given as goal

abbrev pub invariant-loop-to : goal.invariant-loop-to
invariant-loop-to g l = from_values g.run l.rank l.fn.from ≡ from_values g.run l.rank l.to
