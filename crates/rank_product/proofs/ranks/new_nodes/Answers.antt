use Rattle.std.proofs.Common.{arith}
use Rattle.rank_node.specs.Jobs.{is_whole}
use Rattle.rank_product.specs.Runs.{run_of}
use Rattle.rank_product.proofs.NodesLemmas.{new_more, start_of}
use Rattle.rank_product.proofs.ranks.new_nodes.Goals as goal

pub loop-rank-preserved : goal.loop-rank-preserved
loop-rank-preserved c =
    new_more (run_of (is_whole c.args.job.now) c.args.product c.args.ranks c.args.matrices.now) c.loop-rank.rank c.loop-rank.nodes c.push.new.self c.in_ok-node.node c.loop-rank.invariant c.in_ok-push.ensures.ok
    (record { rank = c.in_ok-node.ensures.rank; fresh_is = c.in_ok-node.ensures.fresh })

pub returns : goal.returns
returns c = start_of (run_of (is_whole c.args.job.now) c.args.product c.args.ranks c.args.matrices.now) c.loop-rank.rank c.loop-rank.nodes (omega (arith, c.loop-rank-test.false, c.loop-rank.auto.rank-end)) c.loop-rank.invariant
