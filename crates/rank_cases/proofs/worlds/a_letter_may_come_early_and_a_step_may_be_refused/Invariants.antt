-- The world is that of the run by hand.
use Rattle.interleave.specs.TwoRanks.{run_of_two}
use Rattle.interleave.specs.Worlds.{IsWorld}
use Rattle.rank_cases.proofs.worlds.a_letter_may_come_early_and_a_step_may_be_refused.Given as goal

abbrev pub invariant-loop-event : goal.invariant-loop-event
invariant-loop-event g l = IsWorld run_of_two l.ranks
