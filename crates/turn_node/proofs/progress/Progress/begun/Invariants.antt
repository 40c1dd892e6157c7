-- All speak of one run.
use Rattle.turn_node.proofs.progress.Progress.begun.Given as goal

abbrev pub ghost-next_values : goal.ghost-next_values
ghost-next_values g a = g.run
