-- Sizes of whole numbers.
use Rattle.std.proofs.Common.{ℕ, ◌+◌, ◌*◌, ◌≤◌, ℤ, pos, negsuc, neg_ℤ, ◌+ℤ◌, ◌*ℤ◌, ◌≤ℤ◌, subst, sym, arith}
use Rattle.std.specs.Prelude.{unsigned_abs}
use Rattle.std.proofs.lemmas.Int.{ints, unsigned_abs-mul}
use Rattle.std.proofs.Math.Nat.{mul-le-mul}

pub abs_within : (z : ℤ) (n : ℕ) → unsigned_abs z ≤ n → (neg_ℤ (pos n) ≤ℤ z) × (z ≤ℤ pos n)
abs_within (pos m) n h = (omega (arith, ints), omega (arith, ints))
abs_within (negsuc m) n h = (omega (arith, ints), omega (arith, ints))

pub abs_below : (z : ℤ) (n : ℕ) → neg_ℤ (pos n) ≤ℤ z → z ≤ℤ pos n → unsigned_abs z ≤ n
abs_below (pos m) n lo hi = omega (arith, ints)
abs_below (negsuc m) n lo hi = omega (arith, ints)

-- a sum is at most as large as both together
pub abs_sum : (a b : ℤ) (m n : ℕ) → unsigned_abs a ≤ m → unsigned_abs b ≤ n → unsigned_abs (a +ℤ b) ≤ m + n
abs_sum a b m n first second =
    let x = abs_within a m first in
    let y = abs_within b n second in
    abs_below (a +ℤ b) (m + n) (omega (arith, ints)) (omega (arith, ints))

-- a product is at most as large as both bounds multiplied
pub abs_product : (a b : ℤ) (m n : ℕ) → unsigned_abs a ≤ m → unsigned_abs b ≤ n → unsigned_abs (a *ℤ b) ≤ m * n
abs_product a b m n first second = subst (λ k. k ≤ m * n) (sym (unsigned_abs-mul a b)) (mul-le-mul first second)
