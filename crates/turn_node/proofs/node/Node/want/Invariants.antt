-- All speak of one run.
use Rattle.turn_node.proofs.node.Node.want.Given as goal

abbrev pub ghost-want : goal.ghost-want
ghost-want g a = g.run
