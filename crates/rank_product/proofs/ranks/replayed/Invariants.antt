-- All speak of one run.
use Rattle.rank_product.proofs.ranks.replayed.Given as goal

abbrev pub ghost-new : goal.ghost-new
ghost-new g a = g.run

abbrev pub ghost-replay : goal.ghost-replay
ghost-replay g a = g.run
