-- All speak of one run.
use Rattle.turn_node.proofs.node.Node.take.Given as goal

abbrev pub ghost-take : goal.ghost-take
ghost-take g a = g.run
