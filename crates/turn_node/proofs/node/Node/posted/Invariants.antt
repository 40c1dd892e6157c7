-- All speak of one run.
use Rattle.turn_node.proofs.node.Node.posted.Given as goal

abbrev pub ghost-posted : goal.ghost-posted
ghost-posted g a = g.run
