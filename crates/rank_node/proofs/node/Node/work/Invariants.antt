-- All speak of one run.
use Rattle.rank_node.proofs.node.Node.work.Given as goal

abbrev pub ghost-inspect : goal.ghost-inspect
ghost-inspect g a = g.run

abbrev pub ghost-sum_inner : goal.ghost-sum_inner
ghost-sum_inner g a = g.run

abbrev pub ghost-sum_outer : goal.ghost-sum_outer
ghost-sum_outer g a = g.run
