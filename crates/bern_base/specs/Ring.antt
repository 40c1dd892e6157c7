-- Values: whole numbers modulo 2^64, each by its representative below 2^64.
use Rattle.std.specs.Prelude.{◌≡◌, ℕ, ◌+◌, ◌-◌, ◌*◌, ◌%◌, ◌^◌, ◌<◌, ℤ, pos, negsuc, if◌then◌else◌, nat_lt}

abbrev pub ring_add : ℕ → ℕ → ℕ
ring_add a b = (a + b) % 2 ^ 64

abbrev pub ring_neg : ℕ → ℕ
ring_neg a = (2 ^ 64 - a) % 2 ^ 64

abbrev pub ring_sub : ℕ → ℕ → ℕ
ring_sub a b = (a + (2 ^ 64 - b)) % 2 ^ 64

abbrev pub ring_mul : ℕ → ℕ → ℕ
ring_mul a b = (a * b) % 2 ^ 64

-- the value of a whole number; negsuc n is -(n + 1)
abbrev pub ring_of : ℤ → ℕ
ring_of (pos n) = n % 2 ^ 64
ring_of (negsuc n) = ring_neg ((n + 1) % 2 ^ 64)

-- the representative from -2^63 to 2^63 - 1
abbrev pub signed_of : ℕ → ℤ
signed_of v = if nat_lt v (2 ^ 63) then pos v else negsuc (2 ^ 64 - 1 - v)

-- the laws of a commutative ring, and what a difference is
pub record IsRing : Type 0 where
  pub add_assoc : (a b c : ℕ) → ring_add (ring_add a b) c ≡ ring_add a (ring_add b c)
  pub add_comm : (a b : ℕ) → ring_add a b ≡ ring_add b a
  pub add_zero : (a : ℕ) → a < 2 ^ 64 → ring_add a 0 ≡ a
  pub add_neg : (a : ℕ) → a < 2 ^ 64 → ring_add a (ring_neg a) ≡ 0
  pub sub_neg : (a b : ℕ) → ring_sub a b ≡ ring_add a (ring_neg b)
  pub mul_assoc : (a b c : ℕ) → ring_mul (ring_mul a b) c ≡ ring_mul a (ring_mul b c)
  pub mul_comm : (a b : ℕ) → ring_mul a b ≡ ring_mul b a
  pub mul_one : (a : ℕ) → a < 2 ^ 64 → ring_mul a 1 ≡ a
  pub mul_add : (a b c : ℕ) → ring_mul a (ring_add b c) ≡ ring_add (ring_mul a b) (ring_mul a c)
