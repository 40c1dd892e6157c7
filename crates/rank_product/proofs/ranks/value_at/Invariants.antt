-- All speak of one run.
use Rattle.rank_product.proofs.ranks.value_at.Given as goal

abbrev pub ghost-owned_values : goal.ghost-owned_values
ghost-owned_values g a = g.run
