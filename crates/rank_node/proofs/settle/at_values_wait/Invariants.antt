-- All speak of one run.
use Rattle.rank_node.proofs.settle.at_values_wait.Given as goal

abbrev pub ghost-has_values : goal.ghost-has_values
ghost-has_values g a = g.run
