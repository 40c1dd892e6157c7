-- It speaks of the run by hand.
use Rattle.interleave.specs.TwoRanks.{run_of_two}
use Rattle.rank_cases.proofs.worlds.world.Given as goal

abbrev pub ghost-new : goal.ghost-new
ghost-new a = run_of_two
