-- All speak of one run.
use Rattle.rank_node.proofs.node.Node.letter.Given as goal

abbrev pub ghost-request : goal.ghost-request
ghost-request g a = g.run

abbrev pub ghost-own_values : goal.ghost-own_values
ghost-own_values g a = g.run
