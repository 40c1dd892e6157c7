-- All speak of one run.
use Rattle.turn_node.proofs.node.Node.inner.Given as goal

abbrev pub ghost-summed : goal.ghost-summed
ghost-summed g a = g.run
