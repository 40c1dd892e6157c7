use Rattle.interleave.proofs.TwoRanksLemmas.{run_is, start_is}
use Rattle.rank_cases.proofs.worlds.world.Goals as goal

pub new-requires : goal.new-requires
new-requires c = (
  run_is,
  start_is c.in_ok-nodes.nodes c.in_ok-first.first c.in_ok-second.second c.in_ok-nodes.ensures c.in_ok-first.ensures.rank c.in_ok-second.ensures.rank c.in_ok-first.ensures.fresh c.in_ok-second.ensures.fresh,
)
