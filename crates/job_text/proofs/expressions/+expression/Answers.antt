use Rattle.std.proofs.Common.{◌≡◌, ◌≢◌, ℕ, zero, suc, ◌-◌, Some, List, option_map, sym, ap, ◌∙◌, arith, refl}
use Rattle.std.proofs.lemmas.Result.{err_from_is_err_and}
use Rattle.bern_base.specs.declared.raw.RawExpr.{roll-RawExpr}
use Rattle.job_text.specs.declared.tokens.Token.{Token}
use Rattle.job_text.specs.Reading.{seen, following}
use Rattle.job_text.specs.NestReading.{expr_at, product_at, products_at, factor_at, factors_at, starred_at, first_sign, sign_at, star_at}
use Rattle.job_text.proofs.ListLemmas.{carries_first, carries_fail, carries_end, carries_on}
use Rattle.job_text.proofs.StopLemmas.{gives_err}
use Rattle.job_text.proofs.expressions.+expression.Goals as goal

expr-step : (n levels : ℕ) (ts : List Token) → levels ≢ 0 → expr_at n levels ts ≡ option_map (λ p. (roll-RawExpr (record { sums = p.0 }), p.1)) (products_at n (levels - 1) (first_sign ts).0 (first_sign ts).1)
unfolding expr_at
expr-step n zero ts some = absurd (some refl)
expr-step n (suc levels) ts some = let less : suc levels - 1 ≡ levels = omega arith in rw less refl

pub expression-returns-clause-value : goal.expression-returns-clause-value
expression-returns-clause-value t c = λ n below.
    let ts = c.args.tokens.now in
    let levels = c.args.levels in
    let shorter = c.first_sign-minus.ensures.shorter in
    let read = c.in_ok-sums.ensures.value n (omega arith) in
    expr-step n levels ts c.if-levels-eq0.false
    ∙ ap (λ first. option_map (λ p. (roll-RawExpr (record { sums = p.0 }), p.1)) (products_at n (levels - 1) first.0 first.1)) (sym c.first_sign-minus.ensures.value)
    ∙ ap (option_map (λ p. (roll-RawExpr (record { sums = p.0 }), p.1))) read

pub factors-loop-factors-init : goal.factors-loop-factors-init
factors-loop-factors-init t c = record {
  carries = λ n below. rw c.new-factors.ensures (carries_first (starred_at (expr_at n c.args.levels)) star_at n tt c.args.tokens.now below);
  within = omega arith;
}

pub factors-returns-in_err-factor-clause-value : goal.factors-returns-in_err-factor-clause-value
factors-returns-in_err-factor-clause-value t c = λ n below.
    let within = c.loop-factors.invariant.within in
    let all = factors_at (expr_at n c.args.levels) n c.args.tokens.now in
    gives_err seen c.from_residual.result c.in_err-factor.field-0.0 (factor_at (expr_at n c.args.levels) c.loop-factors.rest.now) all (err_from_is_err_and c.from_residual.result c.from_residual.ensures.1)
    (c.in_err-factor.ensures.value n (omega arith))
    (carries_fail (starred_at (expr_at n c.args.levels)) star_at c.loop-factors.factors tt c.loop-factors.rest.now all (c.loop-factors.invariant.carries n below))

pub factors-loop-factors-preserved : goal.factors-loop-factors-preserved
factors-loop-factors-preserved t c =
    let within = c.loop-factors.invariant.within in
    let factor = c.in_ok-factor.ensures.shorter in
    let next = c.in-Some.ensures.shorter in
    record {
      carries = λ n below. rw c.in_ok-factors-in-Some.ensures (carries_on (starred_at (expr_at n c.args.levels)) star_at c.loop-factors.factors tt c.loop-factors.rest.now
          (factors_at (expr_at n c.args.levels) n c.args.tokens.now) (c.loop-factors.invariant.carries n below) tt c.in_ok-factor.after.now c.in-Some.next.now c.in_ok-factor.factor
          (c.in_ok-factor.ensures.value n (omega arith)) (sym c.next_star.ensures.value ∙ ap (option_map following) c.in-Some.is) (omega arith));
      within = omega arith;
    }

pub factors-returns-in-None-clause-value : goal.factors-returns-in-None-clause-value
factors-returns-in-None-clause-value t c = λ n below.
    let within = c.loop-factors.invariant.within in
    carries_end (starred_at (expr_at n c.args.levels)) star_at c.loop-factors.factors tt c.loop-factors.rest.now (factors_at (expr_at n c.args.levels) n c.args.tokens.now) (c.loop-factors.invariant.carries n below)
    c.in_ok-factor.after.now c.in_ok-factor.factor (c.in_ok-factor.ensures.value n (omega arith)) (sym c.next_star.ensures.value ∙ ap (option_map following) c.in-None.is)
    ∙ ap (λ items. Some (items, c.in_ok-factor.after.now)) (sym c.in_ok-with_last-in-None.ensures)

pub products-loop-products-init : goal.products-loop-products-init
products-loop-products-init t c = record {
  carries = λ n below. rw c.new-products.ensures (carries_first (product_at (expr_at n c.args.levels) n) sign_at n c.args.minus c.args.tokens.now below);
  within = omega arith;
}

pub products-returns-in_err-product-clause-value : goal.products-returns-in_err-product-clause-value
products-returns-in_err-product-clause-value t c = λ n below.
    let within = c.loop-products.invariant.within in
    let all = products_at n c.args.levels c.args.minus c.args.tokens.now in
    gives_err seen c.from_residual.result c.in_err-product.field-0.0 (product_at (expr_at n c.args.levels) n c.loop-products.minus c.loop-products.rest.now) all (err_from_is_err_and c.from_residual.result c.from_residual.ensures.1)
    (c.in_err-product.ensures.value n (omega arith))
    (carries_fail (product_at (expr_at n c.args.levels) n) sign_at c.loop-products.products c.loop-products.minus c.loop-products.rest.now all (c.loop-products.invariant.carries n below))

pub products-loop-products-preserved : goal.products-loop-products-preserved
products-loop-products-preserved t c =
    let within = c.loop-products.invariant.within in
    let product = c.in_ok-product.ensures.shorter in
    let next = c.in-Some.ensures.shorter in
    record {
      carries = λ n below. rw c.in_ok-products-in-Some.ensures (carries_on (product_at (expr_at n c.args.levels) n) sign_at c.loop-products.products c.loop-products.minus c.loop-products.rest.now
          (products_at n c.args.levels c.args.minus c.args.tokens.now) (c.loop-products.invariant.carries n below) c.in-Some.sign c.in_ok-product.after.now c.in-Some.next.now c.in_ok-product.product
          (c.in_ok-product.ensures.value n (omega arith)) (sym c.next_sign.ensures.value ∙ ap (option_map seen) c.in-Some.is) (omega arith));
      within = omega arith;
    }

pub products-returns-in-None-clause-value : goal.products-returns-in-None-clause-value
products-returns-in-None-clause-value t c = λ n below.
    let within = c.loop-products.invariant.within in
    carries_end (product_at (expr_at n c.args.levels) n) sign_at c.loop-products.products c.loop-products.minus c.loop-products.rest.now (products_at n c.args.levels c.args.minus c.args.tokens.now) (c.loop-products.invariant.carries n below)
    c.in_ok-product.after.now c.in_ok-product.product (c.in_ok-product.ensures.value n (omega arith)) (sym c.next_sign.ensures.value ∙ ap (option_map seen) c.in-None.is)
    ∙ ap (λ items. Some (items, c.in_ok-product.after.now)) (sym c.in_ok-with_last-in-None.ensures)
