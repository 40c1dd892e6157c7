-- The ring laws of values modulo 2^64, from those of sums and products of whole numbers.
use Rattle.std.proofs.Common.{◌≡◌, ℕ, ◌+◌, ◌-◌, ◌*◌, ◌%◌, ◌^◌, ◌<◌, sym, ap, ◌∙◌, arith}
use Rattle.std.proofs.Math.Nat.{add-mod-mod, mod-add-mod, mod-eq_of_lt, add_assoc, add_comm, mul_assoc, mul_comm, mul-add, mul-one, add-zero, mod_self}
use Rattle.std.proofs.lemmas.Nat.{mul-mod_first, mul-mod_second}
use Rattle.bern_base.specs.Ring.{IsRing}

sum_of_three : (a b c m : ℕ) → ((a + b) % m + c) % m ≡ (a + (b + c) % m) % m
sum_of_three a b c m = mod-add-mod (a + b) m c ∙ ap (λ n. n % m) (add_assoc a b c) ∙ sym (add-mod-mod a (b + c) m)

product_of_three : (a b c m : ℕ) → ((a * b) % m * c) % m ≡ (a * ((b * c) % m)) % m
product_of_three a b c m = mul-mod_first (a * b) c m ∙ ap (λ n. n % m) (mul_assoc a b c) ∙ sym (mul-mod_second a (b * c) m)

spread : (a b c m : ℕ) → (a * ((b + c) % m)) % m ≡ ((a * b) % m + (a * c) % m) % m
spread a b c m =
    mul-mod_second a (b + c) m ∙ ap (λ n. n % m) (mul-add a b c) ∙ sym (mod-add-mod (a * b) m (a * c)) ∙ sym (add-mod-mod ((a * b) % m) (a * c) m)

pub values-are-a-ring : IsRing
values-are-a-ring = record {
  add_assoc = λ a b c. sum_of_three a b c (2 ^ 64);
  add_comm = λ a b. ap (λ n. n % 2 ^ 64) (add_comm a b);
  add_zero = λ a fits. ap (λ n. n % 2 ^ 64) (add-zero a) ∙ mod-eq_of_lt fits;
  add_neg = λ a fits. add-mod-mod a (2 ^ 64 - a) (2 ^ 64) ∙ ap (λ n. n % 2 ^ 64) (whole a (2 ^ 64) fits) ∙ mod_self (2 ^ 64);
  sub_neg = λ a b. sym (add-mod-mod a (2 ^ 64 - b) (2 ^ 64));
  mul_assoc = λ a b c. product_of_three a b c (2 ^ 64);
  mul_comm = λ a b. ap (λ n. n % 2 ^ 64) (mul_comm a b);
  mul_one = λ a fits. ap (λ n. n % 2 ^ 64) (mul-one a) ∙ mod-eq_of_lt fits;
  mul_add = λ a b c. spread a b c (2 ^ 64);
}
  where
    whole : (a m : ℕ) → a < m → a + (m - a) ≡ m
    whole a m below = omega (arith, below)
