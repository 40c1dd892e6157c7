-- All speak of one run.
use Rattle.turn_node.proofs.progress.Progress.applied.Given as goal

abbrev pub ghost-drop_used : goal.ghost-drop_used
ghost-drop_used g a = g.run

abbrev pub ghost-begun : goal.ghost-begun
ghost-begun g a = g.run
