-- All speak of one run.
use Rattle.turn_node.proofs.node.Node.given.Given as goal

abbrev pub ghost-given : goal.ghost-given
ghost-given g a = g.run
