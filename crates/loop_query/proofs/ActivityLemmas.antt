-- Terms that are not active have the value 0, so the active ones alone sum to the value of the expression.
use Rattle.std.proofs.Common.{◌≡◌, ◌∙◌, ℕ, ◌+◌, ◌*◌, ◌%◌, ◌^◌, Bool, true, false, ◌&&◌, cond, List, [], ◌∷◌, map, get_or, refl, sym, ap}
use Rattle.std.proofs.Math.Nat.{zero-mul, mul-zero, zero-add}
use Rattle.std.proofs.lemmas.List.Elements.{All-head, All-tail}
use Rattle.std.proofs.lemmas.List.Sums.{sum_by-cons}
use Rattle.std.specs.List.{All, filter, list_all, sum_by}
use Rattle.bern_base.specs.declared.job.Ref.{Ref}
use Rattle.bern_base.specs.declared.limits.TheConstants.{EXPRESSION_LEVELS}
use Rattle.job_model.specs.Elements.{element_of}
use Rattle.job_model.specs.Values.{product_of, read_at}
use Rattle.term_model.specs.Activity.{is_stored_at, is_active}
use Rattle.term_model.specs.Terms.{terms_of, value_of_term, is_dense_in}
use Rattle.loop_query.specs.ActivityLaws.{InactiveTermsAddNothing, ActiveTermsSum}
use Rattle.loop_query.proofs.SumLemmas.{map_product, terms_sum}
use Rattle.loop_query.proofs.ToldLemmas.{terms_are_told_apart}

-- a product of which some factor is 0
product_none : (element : Ref → ℕ) (test : Ref → Bool) (refs : List Ref) → All (λ r. test r ≡ false → element r ≡ 0) refs → list_all test refs ≡ false → product_of (map element refs) ≡ 0
product_none element test [] zeros some = absurd cc
product_none element test (r ∷ refs) zeros some =
    by_test (product_none element test refs (All-tail (λ x. test x ≡ false → element x ≡ 0) r refs zeros)) (test r) refl some
  where
    by_test : (list_all test refs ≡ false → product_of (map element refs) ≡ 0) → (b : Bool) → test r ≡ b → (b && list_all test refs) ≡ false → element r * product_of (map element refs) ≡ 0
    by_test later true is rest = ap (λ p. element r * p) (later rest) ∙ mul-zero (element r)
    by_test later false is rest =
        ap (λ n. n * product_of (map element refs)) (All-head (λ x. test x ≡ false → element x ≡ 0) r refs zeros is) ∙ zero-mul (product_of (map element refs))

pub inactive_terms_add_nothing : InactiveTermsAddNothing
inactive_terms_add_nothing job entries state point t zeros inactive =
    let element = read_at job.arrays state point in
    let none : product_of (map element t.sparse) ≡ 0 =
    product_none element (is_stored_at job entries point) t.sparse (λ k d below is. zeros k d below (element_of job.arrays (get_or t.sparse k d) point) is) inactive in
    ap (λ p. t.factor * p % 2 ^ 64) (map_product element t.dense t.sparse ∙ ap (λ p. product_of (map element t.dense) * p) none ∙ mul-zero (product_of (map element t.dense)))
    ∙ ap (λ p. p % 2 ^ 64) (mul-zero t.factor)

-- leaving out what adds nothing changes no sum
sum_kept : {X : Type 0} (f : X → ℕ) (test : X → Bool) (xs : List X) → All (λ x. test x ≡ false → f x ≡ 0) xs → sum_by f (filter test xs) ≡ sum_by f xs
sum_kept f test [] none = refl
sum_kept f test (x ∷ xs) none = by_test (sum_kept f test xs (All-tail (λ y. test y ≡ false → f y ≡ 0) x xs none)) (test x) refl
  where
    by_test : sum_by f (filter test xs) ≡ sum_by f xs → (b : Bool) → test x ≡ b → sum_by f (cond b (x ∷ filter test xs) (filter test xs)) ≡ sum_by f (x ∷ xs)
    by_test rest true is = sum_by-cons f x (filter test xs) ∙ ap (λ s. f x + s) rest ∙ sym (sum_by-cons f x xs)
    by_test rest false is =
        rest ∙ sym (zero-add (sum_by f xs)) ∙ ap (λ n. n + sum_by f xs) (sym (All-head (λ y. test y ≡ false → f y ≡ 0) x xs none is)) ∙ sym (sum_by-cons f x xs)

pub active_terms_sum : ActiveTermsSum
active_terms_sum job entries state point e zeros =
    let ts = terms_of job e in
    let told = terms_are_told_apart job e in
    ap (λ s. s % 2 ^ 64) (sum_kept (value_of_term job.arrays state point) (is_active job entries point) ts
    (λ k d below. inactive_terms_add_nothing job entries state point (get_or ts k d)
    (λ j r under. zeros (get_or (get_or ts k d).sparse j r).array ((told k d below).sparse j r under))))
    ∙ terms_sum (read_at job.arrays state point) (is_dense_in job) EXPRESSION_LEVELS e
