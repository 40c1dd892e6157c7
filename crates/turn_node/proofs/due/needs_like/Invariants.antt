-- The sets so far.
use Rattle.std.proofs.Common.{◌≡◌, take}
use Rattle.turn_node.proofs.due.needs_like.Given as goal

abbrev pub invariant-loop-set : goal.invariant-loop-set
invariant-loop-set l = l.sets.items ≡ take l.set-index l.needs.sets
