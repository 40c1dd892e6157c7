-- A nest that passes the test of J13 is one-to-one: two points of the box that name one element are one point.
use Rattle.std.proofs.Common.{◌≡◌, ◌∙◌, ◌⊎◌, inl, inr, ℕ, zero, suc, ◌*◌, ◌<◌, ◌≤◌, Bool, true, false, not, ◌||◌, ◌==◌, List, [], ◌∷◌, length, ℤ, pos, negsuc, ◌+ℤ◌, ◌-ℤ◌, ◌*ℤ◌, ◌≤ℤ◌, ◌<ℤ◌, refl, sym, ap, subst, arith}
use Rattle.std.specs.Prelude.{int_le, unsigned_abs}
use Rattle.std.specs.List.{enumerate_from, list_all}
use Rattle.std.specs.Ordering.{int_eq}
use Rattle.std.proofs.lemmas.Bool.{and_parts}
use Rattle.std.proofs.lemmas.Bool.Decides.{Decides-int_eq}
use Rattle.std.proofs.lemmas.Int.{ints, unsigned_abs-mul}
use Rattle.std.proofs.Math.Nat.{mul-le-mul}
use lib.IntN.{zero-*ℤ, *ℤ_comm}
use Rattle.bern_base.proofs.AffineLemmas.{some_abs}
use Rattle.bern_base.specs.Affine.{AffineForm, number_of, value_at}
use Rattle.job_rules.specs.declared.ranges.Range.{Range}
use Rattle.job_rules.specs.declared.resolved.ResolvedRef.{ResolvedRef}
use Rattle.job_rules.specs.Sums.{Sum, coefficient_of, constant_of, range_at, is_within}
use Rattle.job_rules.specs.Nests.{is_many, varies_only, is_alone, is_told}
use Rattle.job_rules.specs.Points.{Point, InBox}
use Rattle.job_rules.specs.After.{narrow_of}
use Rattle.job_rules.proofs.FormLemmas.{narrow_is}
use Rattle.job_rules.proofs.ListLemmas.{place_passes}
use Rattle.job_rules.proofs.ProductLemmas.{add_mul}
use Rattle.job_rules.proofs.SumLemmas.{coefficient_told}

-- equal multiples by a factor that is not 0 are of equal numbers
abs_zero : (z : ℤ) → unsigned_abs z ≡ 0 → z ≡ pos 0
abs_zero (pos m) none = omega (arith, ints)
abs_zero (negsuc m) none = absurd (omega (arith, ints))

no_product : (k z : ℤ) → (k ≡ pos 0 → ⊥) → z *ℤ k ≡ pos 0 → z ≡ pos 0
no_product k z some none =
    let size : unsigned_abs z * unsigned_abs k ≡ 0 = sym (unsigned_abs-mul z k) ∙ ap unsigned_abs none in
    let large : 1 ≤ unsigned_abs k = omega (arith, some_abs k some) in
    let all : unsigned_abs z ≤ unsigned_abs z = omega arith in
    abs_zero z (omega (arith, size, mul-le-mul all large))

same_factor : (k x y : ℤ) → (k ≡ pos 0 → ⊥) → k *ℤ x ≡ k *ℤ y → x ≡ y
same_factor k x y some same =
    let turned : x *ℤ k ≡ y *ℤ k = *ℤ_comm x k ∙ same ∙ *ℤ_comm k y in
    let whole : x ≡ (x -ℤ y) +ℤ y = omega (arith, ints) in
    let parts : x *ℤ k ≡ (x -ℤ y) *ℤ k +ℤ y *ℤ k = ap (λ z. z *ℤ k) whole ∙ add_mul (x -ℤ y) y k in
    let none = no_product k (x -ℤ y) some (omega (arith, ints, turned, parts)) in
    omega (arith, ints, none)

-- of two equal sums whose parts are equal but for one, that one is equal too
abbrev four_parts : ℤ → (ℕ → ℤ) → ℤ
four_parts c f = c +ℤ f 0 +ℤ f 1 +ℤ f 2 +ℤ f 3

one_left : (c : ℤ) (f g : ℕ → ℤ) (v : ℕ) → v < 4 → ((w : ℕ) → (w == v) ≡ false → f w ≡ g w) → four_parts c f ≡ four_parts c g → f v ≡ g v
one_left c f g zero below others same = let x = others 1 refl in let y = others 2 refl in let z = others 3 refl in omega (arith, ints)
one_left c f g (suc zero) below others same = let x = others 0 refl in let y = others 2 refl in let z = others 3 refl in omega (arith, ints)
one_left c f g (suc (suc zero)) below others same = let x = others 0 refl in let y = others 1 refl in let z = others 3 refl in omega (arith, ints)
one_left c f g (suc (suc (suc zero))) below others same = let x = others 0 refl in let y = others 1 refl in let z = others 2 refl in omega (arith, ints)
one_left c f g (suc (suc (suc (suc v)))) below others same = absurd (omega (arith, below))

-- a range that has not two values has one
one_value : (lo hi x y : ℤ) → int_le (pos 2) (hi -ℤ lo) ≡ false → lo ≤ℤ x → x <ℤ hi → lo ≤ℤ y → y <ℤ hi → x ≡ y
one_value lo hi x y few x_low x_high y_low y_high =
    let short : (hi -ℤ lo) <ℤ pos 2 = grind (arith, ints, few) in
    omega (arith, ints)

either_of : (a b c : Bool) → (not a || b || c) ≡ true → (a ≡ false) ⊎ ((b ≡ true) ⊎ (c ≡ true))
either_of false b c is = inl refl
either_of true true c is = inr (inl refl)
either_of true false true is = inr (inr refl)
either_of true false false is = absurd cc

varies_cases : (a b c : Bool) → (a || not b || c) ≡ true → a ≡ false → b ≡ true → c ≡ true
varies_cases false true true is other many = refl
varies_cases false true false is other many = absurd cc
varies_cases false false c is other many = absurd cc
varies_cases true b c is other many = absurd cc

not_zero : (k : ℤ) → not (int_eq k (pos 0)) ≡ true → k ≡ pos 0 → ⊥
not_zero k test is = let yes = (Decides-int_eq k (pos 0)).1 is in cc

module _ (ranges : List Range) (p q : Point) (p_inside : InBox ranges p) (q_inside : InBox ranges q) where
  same_unless_many : (w : ℕ) → is_many ranges w ≡ false → p w ≡ q w
  same_unless_many w few = one_value (range_at ranges w).lo (range_at ranges w).hi (p w) (q w) few (p_inside w).0 (p_inside w).1 (q_inside w).0 (q_inside w).1

  -- but for the variable that is alone in a subscript, all add the same at both points
  same_others : (sum : Sum) (v w : ℕ) → list_all (varies_only ranges sum v) sum ≡ true → (w == v) ≡ false → coefficient_of w sum *ℤ p w ≡ coefficient_of w sum *ℤ q w
  same_others sum v w alone other = by (is_many ranges w) refl
    where
      no_part : coefficient_of w sum ≡ pos 0 → coefficient_of w sum *ℤ p w ≡ coefficient_of w sum *ℤ q w
      no_part none = ap (λ k. k *ℤ p w) none ∙ zero-*ℤ (p w) ∙ sym (zero-*ℤ (q w)) ∙ sym (ap (λ k. k *ℤ q w) none)

      by : (b : Bool) → is_many ranges w ≡ b → coefficient_of w sum *ℤ p w ≡ coefficient_of w sum *ℤ q w
      by false few = ap (λ x. coefficient_of w sum *ℤ x) (same_unless_many w few)
      by true many = elim (coefficient_told w (varies_only ranges sum v) (int_eq (coefficient_of w sum) (pos 0) ≡ true)
          (λ item is passes. varies_cases (w == v) (is_many ranges w) (int_eq (coefficient_of w sum) (pos 0)) (rw (is, varies_only) at passes) other many) sum alone) [
            | inl none ↦ no_part none
            | inr told ↦ no_part ((Decides-int_eq (coefficient_of w sum) (pos 0)).0 told)
          ]

  same_alone : (sum : Sum) (v : ℕ) → v < 4 → is_alone ranges v sum ≡ true → four_parts (constant_of sum) (λ w. coefficient_of w sum *ℤ p w) ≡ four_parts (constant_of sum) (λ w. coefficient_of w sum *ℤ q w) → p v ≡ q v
  unfolding is_alone
  same_alone sum v below alone same =
      let both = and_parts (not (int_eq (coefficient_of v sum) (pos 0))) (list_all (varies_only ranges sum v) sum) alone in
      let left = one_left (constant_of sum) (λ w. coefficient_of w sum *ℤ p w) (λ w. coefficient_of w sum *ℤ q w) v below (λ w other. same_others sum v w both.1 other) same in
      same_factor (coefficient_of v sum) (p v) (q v) (not_zero (coefficient_of v sum) both.0) left

same_list : (p q : List ℤ) → length p ≡ length q → ((v : ℕ) → v < length p → number_of p v ≡ number_of q v) → p ≡ q
same_list [] [] many each = refl
same_list [] (y ∷ q) many each = absurd (omega (arith, many))
same_list (x ∷ p) [] many each = absurd (omega (arith, many))
same_list (x ∷ p) (y ∷ q) many each =
    let first : x ≡ y = each 0 (omega arith) in
    let rest = same_list p q (omega (arith, many)) (λ v below. each (suc v) (omega (arith, below))) in
    λ i. first i ∷ rest i

-- the values of the forms are those of the sums
parts_are : (sum : Sum) (p q : List ℤ) → is_within sum ≡ true → value_at (narrow_of sum) p ≡ value_at (narrow_of sum) q
    → four_parts (constant_of sum) (λ w. coefficient_of w sum *ℤ number_of p w) ≡ four_parts (constant_of sum) (λ w. coefficient_of w sum *ℤ number_of q w)
parts_are sum p q within same = subst (λ (form : AffineForm). value_at form p ≡ value_at form q) (narrow_is sum within) same

module _ (ranges : List Range) (ref : ResolvedRef) (row : is_within ref.row ≡ true) (col : is_within ref.col ≡ true) (told : list_all (λ entry. is_told ranges ref entry.0) (enumerate_from 0 ranges) ≡ true) where
  -- two points of four values that name one element are one
  pub one_point : (p q : List ℤ) → length p ≡ 4 → length q ≡ 4 → InBox ranges (number_of p) → InBox ranges (number_of q) → value_at (narrow_of ref.row) p ≡ value_at (narrow_of ref.row) q → value_at (narrow_of ref.col) p ≡ value_at (narrow_of ref.col) q → p ≡ q
  one_point p q p_four q_four p_inside q_inside same_row same_col = same_list p q (p_four ∙ sym q_four) (λ v below. each v (subst (λ n. v < n) p_four below) (is_many ranges v) refl)
    where
      by_told : (v : ℕ) → v < 4 → is_told ranges ref v ≡ true → number_of p v ≡ number_of q v
      by_told v below is = elim (either_of (is_many ranges v) (is_alone ranges v ref.row) (is_alone ranges v ref.col) is) [
        | inl few ↦ same_unless_many ranges (number_of p) (number_of q) p_inside q_inside v few
        | inr alone ↦ elim alone [
          | inl in_row ↦ same_alone ranges (number_of p) (number_of q) p_inside q_inside ref.row v below in_row (parts_are ref.row p q row same_row)
          | inr in_col ↦ same_alone ranges (number_of p) (number_of q) p_inside q_inside ref.col v below in_col (parts_are ref.col p q col same_col)
        ]
      ]

      there : (v : ℕ) → is_many ranges v ≡ true → v < length ranges
      there v many = by_place v ranges many
        where
          by_place : (k : ℕ) (rs : List Range) → is_many rs k ≡ true → k < length rs
          by_place k [] some = absurd cc
          by_place zero (r ∷ rs) some = omega arith
          by_place (suc k) (r ∷ rs) some = let rest = by_place k rs some in omega (arith, rest)

      each : (v : ℕ) → v < 4 → (b : Bool) → is_many ranges v ≡ b → number_of p v ≡ number_of q v
      each v below false few = same_unless_many ranges (number_of p) (number_of q) p_inside q_inside v few
      each v below true many = by_told v below (place_passes (is_told ranges ref) 0 ranges v v told (there v many) (omega arith))
