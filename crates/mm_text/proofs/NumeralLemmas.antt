-- Room for a further digit.
use Rattle.std.proofs.Common.{◌≡◌, lit<, ℕ, ◌+◌, ◌-◌, ◌*◌, ◌^◌, ◌<◌, ◌≤◌, true, nat_le, refl, arith}
use Rattle.std.proofs.Math.Nat.{pow-le-pow_right}
use Rattle.std.proofs.lemmas.Bool.{and_parts, leb-true}
use Rattle.mm_profile.specs.Numbers.{is_digit}

digit_below : (b : ℕ) → is_digit b ≡ true → b - 48 < 10
digit_below b digit =
    let parts = and_parts (nat_le 48 b) (nat_le b 57) digit in
    omega (arith, leb-true 48 b parts.0, leb-true b 57 parts.1)

below_all : (n d p q : ℕ) → n < p → d < 10 → p * 10 < q → n * 10 + d < q
below_all n d p q front digit room = omega (arith, front, digit, room)

-- after at most 18 digits
pub digit-fits : (n at b : ℕ) → n < 10 ^ at → at < 19 → is_digit b ≡ true → n * 10 + (b - 48) < 2 ^ 64
digit-fits n at b front few digit =
    let most : 10 ^ at ≤ 10 ^ 18 = pow-le-pow_right {n = 10} (lit< tt) {i = at} {j = 18} (omega (arith, few)) in
    below_all n (b - 48) (10 ^ 18) (2 ^ 64) (less n (10 ^ at) (10 ^ 18) front most) (digit_below b digit) (lit< tt)
  where
    less : (n p q : ℕ) → n < p → p ≤ q → n < q
    less n p q low high = omega (arith, low, high)

pub tens-fit : (n at : ℕ) → n < 10 ^ at → at < 19 → n * 10 < 2 ^ 64
tens-fit n at front few = less (n * 10) (n * 10 + 0) (2 ^ 64) (omega arith) (digit-fits n at 48 front few refl)
  where
    less : (m k q : ℕ) → m ≤ k → k < q → m < q
    less m k q low high = omega (arith, low, high)
