-- All speak of one run.
use Rattle.rank_node.proofs.node.Node.sum_outer.Given as goal

abbrev pub ghost-end_values : goal.ghost-end_values
ghost-end_values g a = g.run
