use Rattle.std.proofs.Common.{◌≡◌, take}
use Rattle.term_model.specs.Terms.{choices}
use Rattle.loop_query.proofs.products.multiplied.Given as goal

abbrev pub invariant-loop-term : goal.invariant-loop-term
invariant-loop-term l = l.products ≡ choices (take l.term-index l.term-items) l.fn.right
