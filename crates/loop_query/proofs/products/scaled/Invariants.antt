use Rattle.std.proofs.Common.{◌≡◌, ◌++◌, take, drop, map}
use Rattle.term_model.specs.Terms.{times, number_term}
use Rattle.loop_query.proofs.products.scaled.Given as goal

abbrev pub invariant-loop-term : goal.invariant-loop-term
invariant-loop-term l = l.term-items ≡ map (λ t. times t (number_term l.number)) (take l.term-index l.initial.term-items) ++ drop l.term-index l.initial.term-items
