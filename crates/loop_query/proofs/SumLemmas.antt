-- The values of the terms sum to the value of the expression. Over whole numbers, and modulo m at the end.
use Rattle.std.proofs.Common.{◌≡◌, ◌∙◌, ℕ, zero, suc, ◌+◌, ◌-◌, ◌*◌, ◌%◌, ◌^◌, ◌<◌, Bool, true, false, if◌then◌else◌, List, [], ◌∷◌, ◌++◌, map, get_or, refl, sym, ap, arith}
use Rattle.std.proofs.Math.Nat.{add-zero, mul-zero, one-mul, mul-one, mul-suc, suc-mul, zero-mod, sub-zero, mul_comm, mul_assoc, mul-mul-mul_comm, mod_self, mod-lt, mod-mod, mul-add-mod_self_left}
use Rattle.std.proofs.lemmas.List.{map-append}
use Rattle.std.proofs.lemmas.List.Sums.{sum_by-cons}
use Rattle.std.proofs.lemmas.Nat.{mul-mod_first, mul-mod_second}
use Rattle.std.specs.List.{fold, flat_map, sum_by}
use Rattle.bern_base.specs.Expressions.{by_levels}
use Rattle.bern_base.specs.Ring.{ring_mul, ring_neg}
use Rattle.bern_base.specs.declared.job.Expr.{Expr, out-Expr}
use Rattle.bern_base.specs.declared.job.Factor.{Factor}
use Rattle.bern_base.specs.declared.job.Factor.TheVariants as factor
use Rattle.bern_base.specs.declared.job.Product.{Product}
use Rattle.bern_base.specs.declared.job.Ref.{Ref}
use Rattle.bern_base.proofs.SumLemmas.{sum_by-map, sum_by-flat_map, sum_by_agree-mod, sum_by-mul}
use Rattle.job_model.specs.Values.{product_of, factor_value, product_value, sum_value}
use Rattle.term_model.specs.declared.term.Term.{Term}
use Rattle.term_model.specs.Terms.{number_term, read_term, times, choices, sign_of, factor_terms, product_terms, terms_by, term_value}

product_of-append : (xs ys : List ℕ) → product_of (xs ++ ys) ≡ product_of xs * product_of ys
product_of-append [] ys = sym (one-mul (product_of ys))
product_of-append (x ∷ xs) ys = ap (λ p. x * p) (product_of-append xs ys) ∙ sym (mul_assoc x (product_of xs) (product_of ys))

pub map_product : (element : Ref → ℕ) (xs ys : List Ref) → product_of (map element (xs ++ ys)) ≡ product_of (map element xs) * product_of (map element ys)
map_product element xs ys = ap product_of (map-append element xs ys) ∙ product_of-append (map element xs) (map element ys)

-- the value of a term before it is reduced
whole_value : (Ref → ℕ) → Term → ℕ
whole_value element t = t.factor * (product_of (map element t.dense) * product_of (map element t.sparse))

value_is : (element : Ref → ℕ) (t : Term) → term_value element t ≡ whole_value element t % 2 ^ 64
unfolding whole_value
value_is element t = ap (λ p. t.factor * p % 2 ^ 64) (map_product element t.dense t.sparse)

times_value : (element : Ref → ℕ) (a b : Term) → whole_value element (times a b) % 2 ^ 64 ≡ whole_value element a * whole_value element b % 2 ^ 64
unfolding whole_value
times_value element a b =
    let d : Term → ℕ = λ t. product_of (map element t.dense) in
    let s : Term → ℕ = λ t. product_of (map element t.sparse) in
    let refs : product_of (map element (a.dense ++ b.dense)) * product_of (map element (a.sparse ++ b.sparse)) ≡ d a * s a * (d b * s b) =
    ap (λ p. p * product_of (map element (a.sparse ++ b.sparse))) (map_product element a.dense b.dense)
    ∙ ap (λ p. d a * d b * p) (map_product element a.sparse b.sparse)
    ∙ mul-mul-mul_comm (d a) (d b) (s a) (s b) in
    ap (λ p. ring_mul a.factor b.factor * p % 2 ^ 64) refs
    ∙ mul-mod_first (a.factor * b.factor) (d a * s a * (d b * s b)) (2 ^ 64)
    ∙ ap (λ p. p % 2 ^ 64) (mul-mul-mul_comm a.factor b.factor (d a * s a) (d b * s b))

total : (Ref → ℕ) → List Term → ℕ
total element ts = sum_by (whole_value element) ts

-- the sum of all choices is the product of the sums
choices_total : (element : Ref → ℕ) (left right : List Term) → total element (choices left right) % 2 ^ 64 ≡ total element left * total element right % 2 ^ 64
unfolding total
choices_total element left right =
    let v = whole_value element in
    let row : (a : Term) → sum_by v (map (times a) right) % 2 ^ 64 ≡ v a * sum_by v right % 2 ^ 64 = λ a.
    ap (λ s. s % 2 ^ 64) (sum_by-map v (times a) right)
    ∙ sum_by_agree-mod (2 ^ 64) (λ b. v (times a b)) (λ b. v b * v a) right (λ k e below. times_value element a (get_or right k e) ∙ ap (λ p. p % 2 ^ 64) (mul_comm (v a) (v (get_or right k e))))
    ∙ ap (λ s. s % 2 ^ 64) (sum_by-mul v (v a) right ∙ mul_comm (sum_by v right) (v a)) in
    ap (λ s. s % 2 ^ 64) (sum_by-flat_map v (λ a. map (times a) right) left)
    ∙ sum_by_agree-mod (2 ^ 64) (λ a. sum_by v (map (times a) right)) (λ a. v a * sum_by v right) left (λ k e below. row (get_or left k e))
    ∙ ap (λ s. s % 2 ^ 64) (sum_by-mul v (sum_by v right) left)

-- a product: if each factor's terms sum to its value, all choices sum to the product
chosen_total : (element : Ref → ℕ) (terms : Factor → List Term) (value : Factor → ℕ) → ((f : Factor) → total element (terms f) % 2 ^ 64 ≡ value f % 2 ^ 64) → (fs : List Factor) (ts : List Term) →
    total element (fold (λ all f. choices all (terms f)) ts fs) % 2 ^ 64 ≡ total element ts * product_of (map value fs) % 2 ^ 64
chosen_total element terms value same [] ts = ap (λ s. s % 2 ^ 64) (sym (mul-one (total element ts)))
chosen_total element terms value same (f ∷ fs) ts =
    let rest = product_of (map value fs) in
    let here = total element (terms f) in
    chosen_total element terms value same fs (choices ts (terms f))
    ∙ sym (mul-mod_first (total element (choices ts (terms f))) rest (2 ^ 64))
    ∙ ap (λ s. s * rest % 2 ^ 64) (choices_total element ts (terms f))
    ∙ mul-mod_first (total element ts * here) rest (2 ^ 64)
    ∙ ap (λ s. s % 2 ^ 64) (mul_assoc (total element ts) here rest)
    ∙ sym (mul-mod_second (total element ts) (here * rest) (2 ^ 64))
    ∙ ap (λ s. total element ts * s % 2 ^ 64) (sym (mul-mod_first here rest (2 ^ 64)) ∙ ap (λ s. s * rest % 2 ^ 64) (same f) ∙ mul-mod_first (value f) rest (2 ^ 64))
    ∙ mul-mod_second (total element ts) (value f * rest) (2 ^ 64)

one_total : (element : Ref → ℕ) (t : Term) → total element (t ∷ []) ≡ whole_value element t
unfolding total
one_total element t = sum_by-cons (whole_value element) t [] ∙ add-zero (whole_value element t)

number_total : (element : Ref → ℕ) (n : ℕ) → total element (number_term n ∷ []) ≡ n
unfolding whole_value
number_total element n = one_total element (number_term n) ∙ mul-one n

read_total : (element : Ref → ℕ) (dense : Bool) (ref : Ref) → total element (read_term dense ref ∷ []) ≡ element ref
unfolding whole_value
read_total element true ref = one_total element (read_term true ref) ∙ one-mul (element ref * 1 * 1) ∙ mul-one (element ref * 1) ∙ mul-one (element ref)
read_total element false ref = one_total element (read_term false ref) ∙ one-mul (1 * (element ref * 1)) ∙ one-mul (element ref * 1) ∙ mul-one (element ref)

-- m - 1 times a number is its negative
negative : (k p : ℕ) → k * p % suc k ≡ (suc k - p % suc k) % suc k
negative k p = sym (mul-mod_second k p (suc k)) ∙ by_rest (p % suc k) (mod-lt p (omega arith))
  where
    by_rest : (r : ℕ) → r < suc k → k * r % suc k ≡ (suc k - r) % suc k
    by_rest zero below = ap (λ n. n % suc k) (mul-zero k) ∙ zero-mod (suc k) ∙ sym (mod_self (suc k)) ∙ ap (λ n. n % suc k) (sym (sub-zero (suc k)))
    by_rest (suc q) below =
        let whole : k * suc q ≡ suc k * q + (suc k - suc q) = omega (arith, mul-suc k q, suc-mul k q) in
        ap (λ n. n % suc k) whole ∙ mul-add-mod_self_left (suc k) q (suc k - suc q)

signed : (minus : Bool) (p : ℕ) → sign_of minus * p % 2 ^ 64 ≡ (if minus then ring_neg (p % 2 ^ 64) else p % 2 ^ 64)
signed true p = negative (2 ^ 64 - 1) p
signed false p = ap (λ n. n % 2 ^ 64) (one-mul p)

-- `inner` are the terms of what stands in parentheses, and `value` is its value
module _ (element : Ref → ℕ) (dense : Ref → Bool) (inner : Expr → List Term) (value : Expr → ℕ) (same : (e : Expr) → total element (inner e) % 2 ^ 64 ≡ value e) where
  factor_total : (f : Factor) → total element (factor_terms dense inner f) % 2 ^ 64 ≡ factor_value element value f % 2 ^ 64
  factor_total (factor.Num n) = ap (λ s. s % 2 ^ 64) (number_total element n)
  factor_total (factor.Read ref) = ap (λ s. s % 2 ^ 64) (read_total element (dense ref) ref)
  factor_total (factor.Group e) = sym (mod-mod (total element (inner e)) (2 ^ 64)) ∙ ap (λ s. s % 2 ^ 64) (same e)

  product_total : (p : Product) → total element (product_terms dense inner p) % 2 ^ 64 ≡ product_value element value p
  product_total p =
      let whole = product_of (map (factor_value element value) p.factors) in
      chosen_total element (factor_terms dense inner) (factor_value element value) factor_total p.factors (number_term (sign_of p.minus) ∷ [])
      ∙ ap (λ s. s * whole % 2 ^ 64) (number_total element (sign_of p.minus))
      ∙ signed p.minus whole

  products_total : (ps : List Product) → total element (flat_map (product_terms dense inner) ps) % 2 ^ 64 ≡ sum_by (product_value element value) ps % 2 ^ 64
  unfolding total
  products_total ps =
      ap (λ s. s % 2 ^ 64) (sum_by-flat_map (whole_value element) (product_terms dense inner) ps)
      ∙ sum_by_agree-mod (2 ^ 64) (λ p. total element (product_terms dense inner p)) (product_value element value) ps
      (λ k d below. let p = get_or ps k d in sym (mod-mod (total element (product_terms dense inner p)) (2 ^ 64)) ∙ ap (λ s. s % 2 ^ 64) (product_total p))

terms_total : (element : Ref → ℕ) (dense : Ref → Bool) (levels : ℕ) (e : Expr) → total element (terms_by dense levels e) % 2 ^ 64 ≡ sum_value element levels e
unfolding total by_levels
terms_total element dense zero e = refl
terms_total element dense (suc n) e = products_total element dense (terms_by dense n) (sum_value element n) (terms_total element dense n) (out-Expr e).sums

pub terms_sum : (element : Ref → ℕ) (dense : Ref → Bool) (levels : ℕ) (e : Expr) → sum_by (term_value element) (terms_by dense levels e) % 2 ^ 64 ≡ sum_value element levels e
unfolding total
terms_sum element dense levels e =
    let ts = terms_by dense levels e in
    sum_by_agree-mod (2 ^ 64) (term_value element) (whole_value element) ts
    (λ k d below. let t = get_or ts k d in ap (λ v. v % 2 ^ 64) (value_is element t) ∙ mod-mod (whole_value element t) (2 ^ 64))
    ∙ terms_total element dense levels e
