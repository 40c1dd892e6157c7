-- It speaks of the run by hand.
use Rattle.interleave.specs.TwoRanks.{run_of_two}
use Rattle.rank_cases.proofs.worlds.target_at.Given as goal

abbrev pub ghost-owned_values : goal.ghost-owned_values
ghost-owned_values a = run_of_two
