-- All speak of one run.
use Rattle.interleave.proofs.boxes.Row.deliver.Given as goal

abbrev pub ghost-deliver : goal.ghost-deliver
ghost-deliver g a = g.run
