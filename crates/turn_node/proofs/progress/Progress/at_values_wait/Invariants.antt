-- All speak of one run.
use Rattle.turn_node.proofs.progress.Progress.at_values_wait.Given as goal

abbrev pub ghost-has_values : goal.ghost-has_values
ghost-has_values g a = g.run
