-- It speaks of the run by hand.
use Rattle.interleave.specs.TwoRanks.{run_of_two}
use Rattle.rank_cases.proofs.worlds.happens.Given as goal

abbrev pub ghost-step : goal.ghost-step
ghost-step a = run_of_two
