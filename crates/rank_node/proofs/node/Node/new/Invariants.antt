-- All speak of one run.
use Rattle.rank_node.proofs.node.Node.new.Given as goal

abbrev pub ghost-dealing : goal.ghost-dealing
ghost-dealing g a = g.run

abbrev pub ghost-factors : goal.ghost-factors
ghost-factors g a = g.run
