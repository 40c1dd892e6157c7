-- Each call of the cycle has less to do: a level less, or a step within its level.
use Rattle.std.proofs.Common.{ℕ, ◌+◌, ◌*◌, ◌<◌, ◌≤◌, length}
use Rattle.job_text.specs.NestReading.{expr_at, product_at, products_at, starred_at, factors_at, star_at, sign_at}
use Rattle.job_text.proofs.ListLemmas.{Carries}
use Rattle.job_text.proofs.expressions.+expression.Given as goal

abbrev pub decreases-expression : goal.decreases-expression
decreases-expression l = 5 * l.levels

abbrev pub decreases-factor : goal.decreases-factor
decreases-factor l = 5 * l.levels + 1

abbrev pub decreases-factors : goal.decreases-factors
decreases-factors l = 5 * l.levels + 2

abbrev pub decreases-product : goal.decreases-product
decreases-product l = 5 * l.levels + 3

abbrev pub decreases-products : goal.decreases-products
decreases-products l = 5 * l.levels + 4

abbrev pub invariant-factors-loop-factors : goal.invariant-factors-loop-factors
invariant-factors-loop-factors l = record {
  carries : (n : ℕ) → length l.fn.tokens < n → Carries (starred_at (expr_at n l.levels)) star_at l.factors tt l.rest (factors_at (expr_at n l.levels) n l.fn.tokens);
  within : length l.rest ≤ length l.fn.tokens;
}

abbrev pub decreases-factors-loop-factors : goal.decreases-factors-loop-factors
decreases-factors-loop-factors l = length l.rest

abbrev pub invariant-products-loop-products : goal.invariant-products-loop-products
invariant-products-loop-products l = record {
  carries : (n : ℕ) → length l.fn.tokens < n → Carries (product_at (expr_at n l.levels) n) sign_at l.products l.minus l.rest (products_at n l.levels l.fn.minus l.fn.tokens);
  within : length l.rest ≤ length l.fn.tokens;
}

abbrev pub decreases-products-loop-products : goal.decreases-products-loop-products
decreases-products-loop-products l = length l.rest
