-- All speak of one run.
use Rattle.interleave.proofs.boxes.Queue.deliver.Given as goal

abbrev pub ghost-take : goal.ghost-take
ghost-take g a = g.run
