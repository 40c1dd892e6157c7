-- The elements of the sets so far.
use Rattle.std.proofs.Common.{◌≡◌, filter, take}
use Rattle.std.specs.List.{sum_by}
use Rattle.turn_model.specs.Runs.{is_for}
use Rattle.turn_node.specs.Asks.{elements_in}
use Rattle.turn_node.proofs.due.elements_due.Given as goal

abbrev pub invariant-loop-set : goal.invariant-loop-set
invariant-loop-set l = l.count ≡ sum_by elements_in (filter (is_for l.nest) (take l.set-index l.sets))
