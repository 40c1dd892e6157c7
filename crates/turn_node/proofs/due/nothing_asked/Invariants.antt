-- So many so far.
use Rattle.std.proofs.Common.{◌≡◌, replicate}
use Rattle.turn_node.specs.Asks.{no_needs}
use Rattle.turn_node.proofs.due.nothing_asked.Given as goal

abbrev pub invariant-loop : goal.invariant-loop
invariant-loop l = l.asked.items ≡ replicate l.counter no_needs
