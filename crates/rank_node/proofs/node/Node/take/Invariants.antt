-- All speak of one run.
use Rattle.rank_node.proofs.node.Node.take.Given as goal

abbrev pub ghost-settled : goal.ghost-settled
ghost-settled g a = g.run
