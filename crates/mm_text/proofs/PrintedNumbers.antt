-- Printed numbers are words that spell them.
use Rattle.std.proofs.Common.{◌≡◌, ℕ, suc, ◌+◌, ◌-◌, ◌*◌, ◌/◌, ◌%◌, ◌^◌, ◌<◌, ◌≤◌, true, false, ◌==◌, nat_le, List, [], ◌∷◌, ◌++◌, length, refl, subst, ◌∙◌, inl, inr, arith}
use Rattle.std.specs.Prelude.{decimal}
use Rattle.std.specs.Fmt.{signed_decimal}
use Rattle.std.specs.List.{list_all}
use Rattle.std.proofs.lemmas.Bool.{cases_lt, and_parts, and_from, le-leb, lt-leb, leb-true, ne_eqb, lt-ltb, le-ltb}
use Rattle.std.proofs.lemmas.List.{length_push}
use Rattle.std.proofs.lemmas.List.Folds.{list_all-append}
use Rattle.std.proofs.lemmas.List.Sums.{fold_push}
use Rattle.std.proofs.lemmas.Fmt.{decimal_by_steps}
use Rattle.std.proofs.Math.Nat.{mod-eq_of_lt}
use Rattle.bern_base.specs.Ring.{signed_of}
use Rattle.mm_profile.specs.Numbers.{is_digit, is_natural, natural, is_integer, integer, is_outside, value_of}

-- digits that spell a number
pub record Spells (n : ℕ) (w : List ℕ) : Type 0 where
  pub some : 0 < length w
  pub digits : list_all is_digit w ≡ true
  pub is : natural w ≡ n

digit_of : (n : ℕ) → n < 10 → is_digit (48 + n) ≡ true
digit_of n below = rw (le-leb 48 (48 + n) (omega arith), le-leb (48 + n) 57 (omega arith)) refl

one_digit : (n : ℕ) → n < 10 → Spells n ((48 + n) ∷ [])
one_digit n below = record { some = omega arith; digits = rw (digit_of n below) refl; is = omega arith }

more_digits : (n : ℕ) (ds : List ℕ) → 10 ≤ n → Spells (n / 10) ds → Spells n (ds ++ ((48 + n % 10) ∷ []))
more_digits n ds ten front =
    let last : n % 10 < 10 = omega arith in
    record {
      some = omega (arith, length_push ds (48 + n % 10));
      digits = list_all-append is_digit ds ((48 + n % 10) ∷ []) ∙ and_from _ _ front.digits (rw (digit_of (n % 10) last) refl);
      is = fold_push (λ m b. 10 * m + (b - 48)) 0 ds (48 + n % 10) ∙ rw front.is (omega arith);
    }

pub spells-decimal : (n : ℕ) → n < 2 ^ 64 → Spells n (decimal n)
spells-decimal n below = decimal_by_steps Spells one_digit more_digits n below

pub spells-is_natural : (n : ℕ) (w : List ℕ) → Spells n w → is_natural w ≡ true
spells-is_natural n [] s = absurd (omega (arith, s.some))
spells-is_natural n (b ∷ w) s = s.digits

-- a word that is read as this value
pub record Printed (v : ℕ) (w : List ℕ) : Type 0 where
  pub spelled : is_integer w ≡ true
  pub inside : is_outside (integer w) ≡ false
  pub value : value_of (integer w) ≡ v

digit_above : (b : ℕ) → is_digit b ≡ true → 48 ≤ b
digit_above b digit = leb-true 48 b (and_parts (nat_le 48 b) (nat_le b 57) digit).0

pub printed-digits : (n : ℕ) (w : List ℕ) → n < 2 ^ 64 → Spells n w → Printed n w
printed-digits n [] below s = absurd (omega (arith, s.some))
printed-digits n (b ∷ w) below s =
    let digit = digit_above b (and_parts (is_digit b) (list_all is_digit w) s.digits).0 in
    let minus : (b == 45) ≡ false = ne_eqb b 45 (λ e. omega (arith, e, digit)) in
    let plus : (b == 43) ≡ false = ne_eqb b 43 (λ e. omega (arith, e, digit)) in
    record {
      spelled = rw (minus, plus) s.digits;
      inside = rw (minus, plus) (rw s.is (lt-leb (2 ^ 64) n below));
      value = rw (minus, plus) s.is;
    }

pub printed-minus : (n : ℕ) (w : List ℕ) → 0 < n → n ≤ 2 ^ 63 → Spells n w → Printed (2 ^ 64 - n) (45 ∷ w)
printed-minus n w above below s =
    record {
      spelled = spells-is_natural n w s;
      inside = rw s.is (le-ltb (2 ^ 63) n below);
      value = rw s.is (mod-eq_of_lt (omega arith));
    }

pub printed-signed : (v : ℕ) → v < 2 ^ 64 → Printed v (signed_decimal (signed_of v))
printed-signed v fits =
    elim (cases_lt v (2 ^ 63)) [
      | inl below ↦ rw (lt-ltb v (2 ^ 63) below) (printed-digits v (decimal v) fits (spells-decimal v fits))
      | inr above ↦
          let back : 2 ^ 64 - suc (2 ^ 64 - 1 - v) ≡ v = omega arith in
          rw (le-ltb v (2 ^ 63) above)
          (subst (λ u. Printed u (45 ∷ decimal (suc (2 ^ 64 - 1 - v)))) back
          (printed-minus (suc (2 ^ 64 - 1 - v)) (decimal (suc (2 ^ 64 - 1 - v))) (omega arith) (omega arith) (spells-decimal (suc (2 ^ 64 - 1 - v)) (omega arith))))
    ]
