-- All speak of one run.
use Rattle.interleave.proofs.boxes.Boxes.deliver.Given as goal

abbrev pub ghost-deliver : goal.ghost-deliver
ghost-deliver g a = g.run
