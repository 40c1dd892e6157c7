-- Sums of items.
use Rattle.std.proofs.Common.{◌≡◌, ◌∙◌, ◌⊎◌, inl, inr, ℕ, zero, suc, ◌*◌, ◌≤◌, Bool, true, false, ◌==◌, nat_le, [], ◌∷◌, Option, Some, None, ℤ, pos, ◌+ℤ◌, refl, ap, sym, subst, arith}
use Rattle.std.specs.Prelude.{unsigned_abs}
use Rattle.std.specs.List.{fold, list_all, All}
use Rattle.std.proofs.lemmas.Bool.Decides.{nat_tests}
use Rattle.std.proofs.lemmas.Bool.{and_parts}
use Rattle.std.proofs.lemmas.Int.{ints}
use Rattle.bern_base.specs.Affine.{IsAffine, IsWithin}
use Rattle.bern_base.specs.declared.limits.TheConstants.{MOST_COEFFICIENT, MOST_CONSTANT}
use Rattle.job_rules.specs.declared.items.Item.{Item}
use Rattle.job_rules.specs.Sums.{Sum, variable_of, coefficient_part, coefficient_of, constant_of, is_within_at, is_within}

-- where all items pass a test, a variable has what the passing of an item with it tells, or it stands in none
module _ (v : ℕ) (test : Item → Bool) (P : Type 0) (tells : (item : Item) → variable_of item.meaning ≡ Some v → test item ≡ true → P) where
  item_tells : (item : Item) (o : Option ℕ) → variable_of item.meaning ≡ o → test item ≡ true → (coefficient_part v item ≡ pos 0) ⊎ P
  item_tells item None is passes = inl (rw (is, coefficient_part) refl)
  item_tells item (Some w) is passes = by (w == v) refl
    where
      by : (b : Bool) → (w == v) ≡ b → (coefficient_part v item ≡ pos 0) ⊎ P
      by true same = let e : w ≡ v = grind (arith, nat_tests) in inr (tells item (is ∙ ap Some e) passes)
      by false other = inl (rw (is, coefficient_part, other) refl)

  items_tell : (items : Sum) → list_all test items ≡ true → (fold (λ total item. total +ℤ coefficient_part v item) (pos 0) items ≡ pos 0) ⊎ P
  items_tell [] passes = inl refl
  items_tell (item ∷ items) passes =
      let both = and_parts (test item) (list_all test items) passes in
      elim (item_tells item (variable_of item.meaning) refl both.0) [
        | inr told ↦ inr told
        | inl none ↦ elim (items_tell items both.1) [
          | inr told ↦ inr told
          | inl rest ↦ inl (ap (λ start. fold (λ total i. total +ℤ coefficient_part v i) (pos 0 +ℤ start) items) none ∙ rest)
        ]
      ]

  pub coefficient_told : (sum : Sum) → list_all test sum ≡ true → (coefficient_of v sum ≡ pos 0) ⊎ P
  unfolding coefficient_of
  coefficient_told sum passes = items_tell sum passes

-- within its limits a sum has no large coefficient, and no large constant
pub within_coefficient : (sum : Sum) (v : ℕ) → is_within sum ≡ true → unsigned_abs (coefficient_of v sum) ≤ MOST_COEFFICIENT
unfolding is_within
within_coefficient sum v within =
    let both = and_parts _ (list_all (is_within_at sum) sum) within in
    let few : nat_le (unsigned_abs (coefficient_of v sum)) MOST_COEFFICIENT ≡ true → unsigned_abs (coefficient_of v sum) ≤ MOST_COEFFICIENT = (λ is. grind (arith, nat_tests)) in
    elim (coefficient_told v (is_within_at sum) (nat_le (unsigned_abs (coefficient_of v sum)) MOST_COEFFICIENT ≡ true) (λ item is passes. rw (is, is_within_at) at passes) sum both.1) [
      | inr told ↦ few told
      | inl none ↦ subst (λ k. unsigned_abs k ≤ MOST_COEFFICIENT) (sym none) (omega arith)
    ]

pub within_constant : (sum : Sum) → is_within sum ≡ true → unsigned_abs (constant_of sum) ≤ MOST_CONSTANT
unfolding is_within
within_constant sum within =
    let both = and_parts (nat_le (unsigned_abs (constant_of sum)) MOST_CONSTANT) (list_all (is_within_at sum) sum) within in
    grind (arith, nat_tests, both.0)

pub all_four : (P : ℤ → Type 0) (a b c d : ℤ) → P a → P b → P c → P d → All P (a ∷ b ∷ c ∷ d ∷ [])
all_four P a b c d pa pb pc pd zero e within = pa
all_four P a b c d pa pb pc pd (suc zero) e within = pb
all_four P a b c d pa pb pc pd (suc (suc zero)) e within = pc
all_four P a b c d pa pb pc pd (suc (suc (suc zero))) e within = pd
all_four P a b c d pa pb pc pd (suc (suc (suc (suc k)))) e within = absurd (omega (arith, within))

-- four small coefficients and a small constant make a form
pub form_fits : (c0 k0 k1 k2 k3 : ℤ) → unsigned_abs c0 ≤ 2 * MOST_CONSTANT → unsigned_abs k0 ≤ 2 * MOST_COEFFICIENT → unsigned_abs k1 ≤ 2 * MOST_COEFFICIENT → unsigned_abs k2 ≤ 2 * MOST_COEFFICIENT → unsigned_abs k3 ≤ 2 * MOST_COEFFICIENT
    → IsAffine (record { c0 = c0; coef = k0 ∷ k1 ∷ k2 ∷ k3 ∷ [] })
form_fits c0 k0 k1 k2 k3 h h0 h1 h2 h3 = record {
  constant = (omega (arith, ints), omega (arith, ints));
  coefficients = all_four (IsWithin 2097151) k0 k1 k2 k3 (omega (arith, ints), omega (arith, ints)) (omega (arith, ints), omega (arith, ints)) (omega (arith, ints), omega (arith, ints)) (omega (arith, ints), omega (arith, ints));
}
