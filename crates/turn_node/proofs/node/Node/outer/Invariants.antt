-- All speak of one run.
use Rattle.turn_node.proofs.node.Node.outer.Given as goal

abbrev pub ghost-applied : goal.ghost-applied
ghost-applied g a = g.run
