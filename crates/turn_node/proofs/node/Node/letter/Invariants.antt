-- All speak of one run.
use Rattle.turn_node.proofs.node.Node.letter.Given as goal

abbrev pub ghost-request : goal.ghost-request
ghost-request g a = g.run

abbrev pub ghost-values : goal.ghost-values
ghost-values g a = g.run
