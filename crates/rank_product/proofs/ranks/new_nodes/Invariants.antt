-- The new nodes so far.
use Rattle.rank_node.specs.Jobs.{is_whole}
use Rattle.rank_product.specs.Runs.{run_of}
use Rattle.rank_product.proofs.NodesLemmas.{AreNew}
use Rattle.rank_product.proofs.ranks.new_nodes.Given as goal

abbrev pub invariant-loop-rank : goal.invariant-loop-rank
invariant-loop-rank l = AreNew (run_of (is_whole l.job) l.product l.ranks l.matrices) l.rank l.nodes

abbrev pub ghost-new_node : goal.ghost-new_node
ghost-new_node a = run_of (is_whole a.job.now) a.product a.ranks a.matrices.now
