-- The stores hold the state after the turns so far.
use Rattle.std.proofs.Common.{take}
use Rattle.whole_runs.proofs.TurnLemmas.{AreAfter}
use Rattle.whole_runs.proofs.turns.run_turns.Given as goal

abbrev pub invariant-loop-number : goal.invariant-loop-number
invariant-loop-number g l = AreAfter l.fn.job l.fn.places l.fn.stores (take l.number-index l.number-items) l.stores
