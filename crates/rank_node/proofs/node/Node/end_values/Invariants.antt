-- All speak of one run.
use Rattle.rank_node.proofs.node.Node.end_values.Given as goal

abbrev pub ghost-known_values : goal.ghost-known_values
ghost-known_values g a = g.run

abbrev pub ghost-place : goal.ghost-place
ghost-place g a = g.run
