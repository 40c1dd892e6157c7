use Rattle.std.proofs.Common.{arith}
use Rattle.rank_node.proofs.SumLemmas.{sums_push}
use Rattle.rank_node.proofs.sums.applied.Goals as goal

pub loop-at-preserved : goal.loop-at-preserved
loop-at-preserved c = sums_push _ _ _ _ _ _ _ _ c.loop-at.invariant (omega arith) (omega arith) c.index-values-at.is c.index-sums-at.is c.add.ensures c.in_ok-push.ensures.items
