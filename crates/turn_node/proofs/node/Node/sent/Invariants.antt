-- All speak of one run.
use Rattle.turn_node.proofs.node.Node.sent.Given as goal

abbrev pub ghost-sent : goal.ghost-sent
ghost-sent g a = g.run
