-- All speak of one run.
use Rattle.turn_node.proofs.progress.Progress.post.Given as goal

abbrev pub ghost-settled : goal.ghost-settled
ghost-settled g a = g.run
