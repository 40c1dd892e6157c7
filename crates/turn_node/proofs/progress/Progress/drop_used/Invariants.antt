-- The letters of the ranks so far were dropped.
use Rattle.turn_node.specs.Drops.{HaveDropped}
use Rattle.turn_node.proofs.progress.Progress.drop_used.Given as goal

abbrev pub invariant-loop-from : goal.invariant-loop-from
invariant-loop-from g l = HaveDropped g.run l.fn.self l.self l.turn l.from
