-- All speak of one run.
use Rattle.rank_node.proofs.node.Node.inspect.Given as goal

abbrev pub ghost-place : goal.ghost-place
ghost-place g a = g.run

abbrev pub ghost-settled : goal.ghost-settled
ghost-settled g a = g.run
