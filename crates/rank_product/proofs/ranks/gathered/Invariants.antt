-- All speak of one run.
use Rattle.std.proofs.Common.{◌≡◌, map}
use Rattle.std.specs.List.{range_with_len}
use Rattle.rank_model.specs.Products.{end_value}
use Rattle.rank_product.proofs.ranks.gathered.Given as goal

abbrev pub ghost-value_at : goal.ghost-value_at
ghost-value_at g a = g.run

abbrev pub invariant-loop-i : goal.invariant-loop-i
invariant-loop-i g l = l.values.items ≡ map (end_value g.run) (range_with_len 0 l.i)
