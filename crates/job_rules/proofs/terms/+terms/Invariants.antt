-- Each call of the cycle has less to do: a level less, or a step within its level.
use Rattle.std.proofs.Common.{◌≡◌, ◌+◌, ◌-◌, ◌*◌, [], ◌∷◌, take}
use Rattle.std.specs.List.{flat_map, fold}
use Rattle.job_model.specs.References.{joined}
use Rattle.job_rules.specs.Terms.{terms_of, product_terms, factor_terms, size_of}
use Rattle.job_rules.proofs.terms.+terms.Given as goal

abbrev pub decreases-expression_size : goal.decreases-expression_size
decreases-expression_size l = 3 * l.levels

abbrev pub decreases-product_size : goal.decreases-product_size
decreases-product_size l = 3 * l.levels + 2

abbrev pub decreases-factor_size : goal.decreases-factor_size
decreases-factor_size l = 3 * l.levels + 1

abbrev pub invariant-expression_size-loop-product : goal.invariant-expression_size-loop-product
invariant-expression_size-loop-product l = l.size ≡ size_of (flat_map (product_terms (terms_of (l.levels - 1))) (take l.product-index l.product-items))

abbrev pub invariant-product_size-loop-factor : goal.invariant-product_size-loop-factor
invariant-product_size-loop-factor l = l.size ≡ size_of (fold (λ terms f. joined terms (factor_terms (terms_of l.levels) f)) (0 ∷ []) (take l.factor-index l.factor-items))
