-- Sums of one form, and the forms of sums within their limits.
use Rattle.std.proofs.Common.{◌≡◌, ◌∙◌, inl, inr, ℕ, ◌≤◌, true, ◌&&◌, [], ◌∷◌, if◌then◌else◌, sym, ap, subst}
use Rattle.std.specs.Prelude.{unsigned_abs}
use Rattle.std.specs.List.{list_all}
use Rattle.std.specs.Ordering.{int_eq}
use Rattle.std.proofs.lemmas.Bool.{and_parts}
use Rattle.std.proofs.lemmas.Bool.Decides.{Decides-int_eq}
use Rattle.bern_base.specs.declared.limits.TheConstants.{MOST_COEFFICIENT}
use Rattle.job_model.specs.Accepted.{IsSubscript}
use Rattle.job_rules.specs.Sums.{Sum, coefficient_of, constant_of, agrees_at, same_form, is_within, affine_of}
use Rattle.job_rules.specs.After.{narrow_of, no_form}
use Rattle.job_rules.proofs.SumLemmas.{coefficient_told, within_coefficient, within_constant, all_four}

-- sums of one form have the same constant and the same coefficients
same_coefficient : (a b : Sum) (v : ℕ) → same_form a b ≡ true → coefficient_of v a ≡ coefficient_of v b
unfolding same_form
same_coefficient a b v same =
    let outer = and_parts (int_eq (constant_of a) (constant_of b) && list_all (agrees_at a b) a) (list_all (agrees_at a b) b) same in
    let inner = and_parts (int_eq (constant_of a) (constant_of b)) (list_all (agrees_at a b) a) outer.0 in
    let told = (Decides-int_eq (coefficient_of v a) (coefficient_of v b)).0 in
    let Agree : Type 0 = (int_eq (coefficient_of v a) (coefficient_of v b) ≡ true) in
    elim (coefficient_told v (agrees_at a b) Agree (λ item is passes. rw (is, agrees_at) at passes) a inner.1) [
      | inr agree ↦ told agree
      | inl none ↦ elim (coefficient_told v (agrees_at a b) Agree (λ item is passes. rw (is, agrees_at) at passes) b outer.1) [
        | inr agree ↦ told agree
        | inl zero_too ↦ none ∙ sym zero_too
      ]
    ]

same_constant : (a b : Sum) → same_form a b ≡ true → constant_of a ≡ constant_of b
unfolding same_form
same_constant a b same =
    let outer = and_parts (int_eq (constant_of a) (constant_of b) && list_all (agrees_at a b) a) (list_all (agrees_at a b) b) same in
    let inner = and_parts (int_eq (constant_of a) (constant_of b)) (list_all (agrees_at a b) a) outer.0 in
    (Decides-int_eq (constant_of a) (constant_of b)).0 inner.0

pub same_narrow : (a b : Sum) → is_within a ≡ true → is_within b ≡ true → same_form a b ≡ true → narrow_of a ≡ narrow_of b
unfolding narrow_of
same_narrow a b first second same =
    rw (first, second) (λ i. record {
      c0 = same_constant a b same i;
      coef = same_coefficient a b 0 same i ∷ same_coefficient a b 1 same i ∷ same_coefficient a b 2 same i ∷ same_coefficient a b 3 same i ∷ [];
    })

-- the form of a sum within its limits
pub narrow_is : (sum : Sum) → is_within sum ≡ true → narrow_of sum ≡ affine_of sum
unfolding narrow_of
narrow_is sum within = ap (λ b. if b then affine_of sum else no_form) within

-- and it is within them
pub is_subscript : (sum : Sum) → is_within sum ≡ true → IsSubscript (narrow_of sum)
is_subscript sum within =
    subst IsSubscript (sym (narrow_is sum within)) (record {
      constant = within_constant sum within;
      coefficients = all_four (λ c. unsigned_abs c ≤ MOST_COEFFICIENT) (coefficient_of 0 sum) (coefficient_of 1 sum) (coefficient_of 2 sum) (coefficient_of 3 sum) (within_coefficient sum 0 within) (within_coefficient sum 1 within) (within_coefficient sum 2 within) (within_coefficient sum 3 within);
    })
