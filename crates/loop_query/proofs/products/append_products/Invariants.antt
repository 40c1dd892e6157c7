use Rattle.std.proofs.Common.{◌≡◌, ◌++◌, take, map}
use Rattle.term_model.specs.Terms.{times}
use Rattle.loop_query.proofs.products.append_products.Given as goal

abbrev pub invariant-loop-term : goal.invariant-loop-term
invariant-loop-term l = l.products ≡ l.initial.products ++ map (times l.left) (take l.term-index l.right)
