-- The value of an expression depends on its references alone.
use Rattle.std.proofs.Common.{◌≡◌, ◌∙◌, ℕ, zero, suc, ◌%◌, ◌^◌, ◌<◌, List, [], ◌∷◌, ℤ, map, get_or, refl, ap}
use Rattle.std.specs.Prelude.{if◌then◌else◌}
use Rattle.std.specs.List.{All, sum_by}
use Rattle.std.proofs.Math.Nat.{mod-lt}
use Rattle.std.proofs.lemmas.Nat.{pow_pos}
use Rattle.std.proofs.lemmas.List.Elements.{All-head, All-tail}
use Rattle.bern_base.specs.Expressions.{by_levels}
use Rattle.bern_base.specs.Ring.{ring_neg}
use Rattle.bern_base.specs.declared.job.ArrayDecl.{ArrayDecl}
use Rattle.bern_base.specs.declared.job.Expr.{Expr, out-Expr}
use Rattle.bern_base.specs.declared.job.Factor.{Factor}
use Rattle.bern_base.specs.declared.job.Factor.TheVariants as factor
use Rattle.bern_base.specs.declared.job.Product.{Product}
use Rattle.bern_base.specs.declared.job.Ref.{Ref}
use Rattle.bern_base.proofs.SumLemmas.{sum_by_agree}
use Rattle.job_model.specs.Runnable.{IsExpr, IsFactor, IsProduct}
use Rattle.job_model.specs.State.{State}
use Rattle.job_model.specs.Values.{factor_value, product_of, product_value, read_at, sum_value, value_in}

map_same : {X Y : Type 0} (f g : X → Y) (xs : List X) → All (λ x. f x ≡ g x) xs → map f xs ≡ map g xs
map_same f g [] all = refl
map_same f g (x ∷ xs) all = ap (λ y. y ∷ map f xs) (All-head (λ x. f x ≡ g x) x xs all) ∙ ap (λ ys. g x ∷ ys) (map_same f g xs (All-tail (λ x. f x ≡ g x) x xs all))

module _ (a b : Ref → ℕ) where
  factor_same : (inner other : Expr → ℕ) (Inner : Expr → Type 0) → ((e : Expr) → Inner e → inner e ≡ other e) → (f : Factor) → IsFactor (λ r. a r ≡ b r) Inner f → factor_value a inner f ≡ factor_value b other f
  factor_same inner other Inner deeper (factor.Num n) is = refl
  factor_same inner other Inner deeper (factor.Read ref) is = is
  factor_same inner other Inner deeper (factor.Group e) is = deeper e is

  product_same : (inner other : Expr → ℕ) (Inner : Expr → Type 0) → ((e : Expr) → Inner e → inner e ≡ other e) → (p : Product) → IsProduct (λ r. a r ≡ b r) Inner p → product_value a inner p ≡ product_value b other p
  product_same inner other Inner deeper p is =
      ap (λ (v : ℕ). if p.minus then ring_neg v else v)
      (ap (λ values. product_of values % 2 ^ 64) (map_same (factor_value a inner) (factor_value b other) p.factors (λ k d below. factor_same inner other Inner deeper (get_or p.factors k d) (is k d below))))

  -- expressions whose references have the same values have one value
  pub sum_same : (levels : ℕ) (e : Expr) → IsExpr (λ r. a r ≡ b r) levels e → sum_value a levels e ≡ sum_value b levels e
  unfolding IsExpr by_levels
  sum_same zero e is = refl
  sum_same (suc n) e is =
      ap (λ s. s % 2 ^ 64)
      (sum_by_agree (product_value a (sum_value a n)) (product_value b (sum_value b n)) (out-Expr e).sums
      (λ k d below. product_same (sum_value a n) (sum_value b n) (IsExpr (λ r. a r ≡ b r) n) (sum_same n) (get_or (out-Expr e).sums k d) (is k d below)))

sum_small : (a : Ref → ℕ) (levels : ℕ) (e : Expr) → sum_value a (suc levels) e < 2 ^ 64
unfolding by_levels
sum_small a levels e = mod-lt (sum_by (product_value a (sum_value a levels)) (out-Expr e).sums) (pow_pos 64)

pub value_small : (arrays : List ArrayDecl) (state : State) (point : List ℤ) (e : Expr) → value_in arrays state point e < 2 ^ 64
value_small arrays state point e = sum_small (read_at arrays state point) 16 e
