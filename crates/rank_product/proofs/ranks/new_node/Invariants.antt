-- All speak of one run.
use Rattle.rank_product.proofs.ranks.new_node.Given as goal

abbrev pub ghost-new : goal.ghost-new
ghost-new g a = g.run
