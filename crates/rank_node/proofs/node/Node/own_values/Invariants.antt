-- All speak of one run.
use Rattle.rank_node.proofs.node.Node.own_values.Given as goal

abbrev pub ghost-place : goal.ghost-place
ghost-place g a = g.run
