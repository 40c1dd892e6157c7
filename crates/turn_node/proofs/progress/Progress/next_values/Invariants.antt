-- No rank so far is due values.
use Rattle.std.proofs.Common.{◌≡◌}
use Rattle.turn_node.specs.Positions.{from_values}
use Rattle.turn_node.proofs.progress.Progress.next_values.Given as goal

abbrev pub invariant-loop-to : goal.invariant-loop-to
invariant-loop-to g l = from_values g.run l.self.rank l.turn l.fn.from ≡ from_values g.run l.self.rank l.turn l.to
