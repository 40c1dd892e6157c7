-- All speak of one run.
use Rattle.turn_node.proofs.progress.Progress.posted.Given as goal

abbrev pub ghost-post : goal.ghost-post
ghost-post g a = g.run
