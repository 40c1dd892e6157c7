-- All speak of one run.
use Rattle.rank_node.proofs.node.Node.posted.Given as goal

abbrev pub ghost-post : goal.ghost-post
ghost-post g a = g.run
