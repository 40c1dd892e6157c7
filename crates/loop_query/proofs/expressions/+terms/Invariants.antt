-- Each call of the cycle has less to do: a level less, or a step within its level.
use Rattle.std.proofs.Common.{◌≡◌, ◌+◌, ◌-◌, ◌*◌, [], ◌∷◌, take}
use Rattle.std.specs.List.{flat_map, fold}
use Rattle.term_model.specs.Terms.{terms_by, product_terms, factor_terms, choices, number_term, sign_of, is_dense_in}
use Rattle.loop_query.proofs.expressions.+terms.Given as goal

abbrev pub decreases-expression_terms : goal.decreases-expression_terms
decreases-expression_terms l = 3 * l.levels

abbrev pub decreases-product_terms : goal.decreases-product_terms
decreases-product_terms l = 3 * l.levels + 2

abbrev pub decreases-with_factor : goal.decreases-with_factor
decreases-with_factor l = 3 * l.levels + 1

abbrev pub invariant-expression_terms-loop-product : goal.invariant-expression_terms-loop-product
invariant-expression_terms-loop-product l = l.terms ≡ flat_map (product_terms (is_dense_in l.job) (terms_by (is_dense_in l.job) (l.levels - 1))) (take l.product-index l.product-items)

abbrev pub invariant-product_terms-loop-factor : goal.invariant-product_terms-loop-factor
invariant-product_terms-loop-factor l = l.terms ≡ fold (λ terms f. choices terms (factor_terms (is_dense_in l.job) (terms_by (is_dense_in l.job) l.levels) f)) (number_term (sign_of l.product.minus) ∷ []) (take l.factor-index l.factor-items)
