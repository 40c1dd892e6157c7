use Rattle.std.proofs.Common.{arith}
use Rattle.rank_node.proofs.SetLemmas.{ArePut-more}
use Rattle.rank_node.proofs.sets.put_values.Goals as goal

pub loop-at-preserved : goal.loop-at-preserved
loop-at-preserved c =
    ArePut-more _ _ _ _ _ _ c.loop-at.invariant (omega arith) c.index-values-at.is (omega (arith, c.requires.elements c.loop-at.at 0 c.loop-at-test.true, c.loop-at.invariant.long))
