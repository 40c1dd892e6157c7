-- Each call of the cycle has less to do: a level less, or a step within its level.
use Rattle.std.proofs.Common.{◌≡◌, ◌+◌, ◌-◌, ◌*◌, map, take}
use Rattle.job_rules.specs.After.{checked_factor, checked_product, checked_expr}
use Rattle.job_rules.proofs.expressions.+checked.Given as goal

abbrev pub decreases-checked_expr : goal.decreases-checked_expr
decreases-checked_expr l = 3 * l.levels

abbrev pub decreases-checked_product : goal.decreases-checked_product
decreases-checked_product l = 3 * l.levels + 2

abbrev pub decreases-checked_factor : goal.decreases-checked_factor
decreases-checked_factor l = 3 * l.levels + 1

abbrev pub invariant-checked_expr-loop-product : goal.invariant-checked_expr-loop-product
invariant-checked_expr-loop-product l = l.sums ≡ map (checked_product l.scope (checked_expr l.scope (l.levels - 1))) (take l.product-index l.product-items)

abbrev pub invariant-checked_product-loop-factor : goal.invariant-checked_product-loop-factor
invariant-checked_product-loop-factor l = l.factors ≡ map (checked_factor l.scope (checked_expr l.scope l.levels)) (take l.factor-index l.factor-items)
