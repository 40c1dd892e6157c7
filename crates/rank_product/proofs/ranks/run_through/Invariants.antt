-- All speak of one run.
use Rattle.rank_product.proofs.ranks.run_through.Given as goal

abbrev pub ghost-replayed : goal.ghost-replayed
ghost-replayed g a = g.run

abbrev pub ghost-gathered : goal.ghost-gathered
ghost-gathered g a = g.run
