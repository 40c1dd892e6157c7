-- Binary digits: how many a number has.
use Rattle.std.proofs.Common.{◌≡◌, ℕ, zero, suc, ◌+◌, ◌*◌, ◌/◌, ◌^◌, ◌<◌, ◌≤◌, ◌==◌, refl, sym, ap, ◌∙◌, subst, arith}
use Rattle.std.proofs.lemmas.Bool.{cond-false, ne_eqb}
use Rattle.std.specs.Int.Count.{count_leading_zeros}
use Rattle.std.proofs.Math.Nat.{two-pow-succ}
use Rattle.std.proofs.lemmas.Nat.{leading_length, pow_pos}
use Rattle.format_model.specs.Levels.{bits, digits}
use Rattle.format_model.proofs.DigitLemmas.{digits_none}

digits_some : (most n : ℕ) → 0 < n → digits (suc most) n ≡ suc (digits most (n / 2))
digits_some most n some = cond-false (n == 0) 0 (suc (digits most (n / 2))) (ne_eqb n 0 (omega (arith, some)))

-- more halvings than a number has digits change nothing
enough : (most n more : ℕ) → n ≤ most → n ≤ more → digits most n ≡ digits more n
enough most zero more h k = digits_none most ∙ sym (digits_none more)
enough zero (suc n) more h k = absurd (omega (arith, h))
enough (suc most) (suc n) zero h k = absurd (omega (arith, k))
enough (suc most) (suc n) (suc more) h k =
    digits_some most (suc n) (omega arith) ∙ ap suc (enough most (suc n / 2) more (omega (arith, h)) (omega (arith, k))) ∙ sym (digits_some more (suc n) (omega arith))

pub bits_zero : bits 0 ≡ 0
unfolding bits
bits_zero = refl

-- half of a number has a digit less
pub bits_half : (n : ℕ) → 0 < n → bits n ≡ suc (bits (n / 2))
unfolding bits
bits_half zero some = absurd (omega (arith, some))
bits_half (suc n) some = digits_some n (suc n) some ∙ ap suc (enough n (suc n / 2) (suc n / 2) (omega arith) (omega arith))

digits_up : (most m n : ℕ) → n ≤ most → m ≤ n → digits most m ≤ digits most n
digits_up most zero n h k = subst (λ d. d ≤ digits most n) (sym (digits_none most)) (omega arith)
digits_up zero (suc m) n h k = absurd (omega (arith, h, k))
digits_up (suc most) (suc m) zero h k = absurd (omega (arith, k))
digits_up (suc most) (suc m) (suc n) h k =
    let less = digits_up most (suc m / 2) (suc n / 2) (omega (arith, h)) (omega (arith, k)) in
    let low = digits_some most (suc m) (omega arith) in
    let high = digits_some most (suc n) (omega arith) in omega (arith, less, low, high)

-- a larger number has no fewer digits
pub bits_up : (m n : ℕ) → m ≤ n → bits m ≤ bits n
unfolding bits
bits_up m n up = subst (λ d. d ≤ digits n n) (enough n m m up (omega arith)) (digits_up n m n (omega arith) up)

-- a number between two powers of 2 has as many digits as the exponent says
digits_are : (m most n : ℕ) → n ≤ most → n < 2 ^ m → 2 ^ m ≤ 2 * n + 1 → digits most n ≡ m
digits_are zero most n h low high =
    let none : n ≡ 0 = omega (arith, low) in subst (λ k. digits most k ≡ 0) (sym none) (digits_none most)
digits_are (suc m) zero n h low high = absurd (omega (arith, two-pow-succ m, pow_pos m, h, high))
digits_are (suc m) (suc most) n h low high =
    let double : 2 ^ suc m ≡ 2 ^ m + 2 ^ m = two-pow-succ m in
    let some : 0 < n = omega (arith, double, pow_pos m, high) in
    digits_some most n some ∙ ap suc (digits_are m most (n / 2) (omega (arith, h, some)) (omega (arith, double, low)) (omega (arith, double, high)))

-- the digits of a word are those after its leading zeros
pub bits_after_zeros : (w n : ℕ) → n < 2 ^ w → count_leading_zeros w n + bits n ≡ w
unfolding bits
bits_after_zeros w n below =
    let (m, whole, low, high) = leading_length w n below in
    omega (arith, whole, digits_are m n n (omega arith) low high)
