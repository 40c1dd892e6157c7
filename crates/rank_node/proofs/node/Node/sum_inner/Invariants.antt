-- All speak of one run.
use Rattle.rank_node.proofs.node.Node.sum_inner.Given as goal

abbrev pub ghost-inner_sums : goal.ghost-inner_sums
ghost-inner_sums g a = g.run

abbrev pub ghost-settled : goal.ghost-settled
ghost-settled g a = g.run
