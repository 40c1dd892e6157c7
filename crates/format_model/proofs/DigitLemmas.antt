-- As many digits in base 2 as halvings until nothing is left.
use Rattle.std.proofs.Common.{◌≡◌, ℕ, zero, suc, ◌*◌, ◌/◌, ◌^◌, ◌<◌, ◌≤◌, ◌==◌, ap, ◌∙◌, subst, sym, refl, ⊎_elim, arith}
use Rattle.std.proofs.Math.Nat.{pow-suc}
use Rattle.std.proofs.lemmas.Bool.{cond-false, cases_eq, ne_eqb}
use Rattle.format_model.specs.Laws.{BitsCountDigits}
use Rattle.format_model.specs.Levels.{bits, digits}

-- 0 has no digit
pub digits_none : (most : ℕ) → digits most 0 ≡ 0
digits_none zero = refl
digits_none (suc most) = refl

record Counts (n d : ℕ) : Type 0 where
  above : n < 2 ^ d
  least : 0 < n → 2 ^ d ≤ 2 * n

none_count : (n d : ℕ) → n ≡ 0 → d ≡ 0 → Counts n d
none_count n d none empty = let one : 2 ^ d ≡ 1 = ap (λ k. 2 ^ k) empty in record { above = omega (arith, none, one); least = λ some. absurd (omega (arith, none, some)) }

-- one digit more than the half
half_count : (n d : ℕ) → 0 < n → Counts (n / 2) d → (n / 2 ≡ 0 → d ≡ 0) → Counts n (suc d)
half_count n d some half none =
    let twice : 2 ^ suc d ≡ 2 ^ d * 2 = pow-suc 2 d in record {
      above = omega (arith, twice, half.above);
      least = λ _. ⊎_elim
          (λ (whole : n / 2 ≡ 0). let one : 2 ^ d ≡ 1 = ap (λ k. 2 ^ k) (none whole) in omega (arith, twice, one, some))
          (λ (more : n / 2 ≡ 0 → ⊥). let rest : 2 ^ d ≤ 2 * (n / 2) = half.least (omega (arith, more)) in omega (arith, twice, rest))
          (cases_eq (n / 2) 0);
    }

digits_count : (most n : ℕ) → n ≤ most → Counts n (digits most n)
digits_count zero n few = none_count n 0 (omega (arith, few)) refl
digits_count (suc most) n few = ⊎_elim
    (λ (none : n ≡ 0). none_count n (digits (suc most) n) none (ap (digits (suc most)) none ∙ digits_none (suc most)))
    (λ (some : n ≡ 0 → ⊥).
    let step : digits (suc most) n ≡ suc (digits most (n / 2)) = cond-false (n == 0) 0 (suc (digits most (n / 2))) (ne_eqb n 0 some) in
    subst (Counts n) (sym step) (half_count n (digits most (n / 2)) (omega (arith, some)) (digits_count most (n / 2) (omega (arith, few, some))) (λ whole. ap (digits most) whole ∙ digits_none most)))
    (cases_eq n 0)

pub bits-count_digits : BitsCountDigits
unfolding bits
bits-count_digits n = let count : Counts n (digits n n) = digits_count n n (omega arith) in (count.above, count.least)
