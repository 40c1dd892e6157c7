-- Products of whole numbers.
use Rattle.std.proofs.Common.{◌≡◌, ◌∙◌, ℕ, zero, suc, ℤ, pos, negsuc, neg_ℤ, ◌+ℤ◌, ◌-ℤ◌, ◌*ℤ◌, ◌≤ℤ◌, sym, ap, arith}
use Rattle.std.proofs.lemmas.Int.{ints}
use lib.IntN.{ℤ_ind, suc_ℤ-+ℤ, pred_ℤ-+ℤ, +ℤ_one, -ℤ_one, suc_ℤ-*ℤ, pred_ℤ-*ℤ, zero-*ℤ, +ℤ_idl, *ℤ_comm, *ℤ-negsuc}

pub swap_plus : (x y z : ℤ) → (x +ℤ y) +ℤ z ≡ (x +ℤ z) +ℤ y
swap_plus x y z = omega (arith, ints)

swap_minus : (x y z : ℤ) → (x +ℤ y) -ℤ z ≡ (x -ℤ z) +ℤ y
swap_minus x y z = omega (arith, ints)

-- products spread over sums
pub add_mul : (a b p : ℤ) → (a +ℤ b) *ℤ p ≡ a *ℤ p +ℤ b *ℤ p
add_mul a b p = ℤ_ind Spreads base (λ n ih. up (pos n) ih) (λ n ih. down (neg_ℤ (pos n)) ih) a
  where
    Spreads : ℤ → Type 0
    Spreads x = (x +ℤ b) *ℤ p ≡ x *ℤ p +ℤ b *ℤ p

    base : (pos 0 +ℤ b) *ℤ p ≡ pos 0 *ℤ p +ℤ b *ℤ p
    base = ap (λ x. x *ℤ p) (+ℤ_idl b) ∙ sym (ap (λ x. x +ℤ b *ℤ p) (zero-*ℤ p) ∙ +ℤ_idl (b *ℤ p))

    up : (x : ℤ) → (x +ℤ b) *ℤ p ≡ x *ℤ p +ℤ b *ℤ p → (x +ℤ pos 1 +ℤ b) *ℤ p ≡ (x +ℤ pos 1) *ℤ p +ℤ b *ℤ p
    up x ih =
        let left : (x +ℤ pos 1 +ℤ b) *ℤ p ≡ (x +ℤ b) *ℤ p +ℤ p = ap (λ y. (y +ℤ b) *ℤ p) (+ℤ_one x) ∙ ap (λ y. y *ℤ p) (suc_ℤ-+ℤ x b) ∙ suc_ℤ-*ℤ (x +ℤ b) p in
        let right : (x +ℤ pos 1) *ℤ p ≡ x *ℤ p +ℤ p = ap (λ y. y *ℤ p) (+ℤ_one x) ∙ suc_ℤ-*ℤ x p in
        left ∙ ap (λ y. y +ℤ p) ih ∙ swap_plus (x *ℤ p) (b *ℤ p) p ∙ ap (λ y. y +ℤ b *ℤ p) (sym right)

    down : (x : ℤ) → (x +ℤ b) *ℤ p ≡ x *ℤ p +ℤ b *ℤ p → (x -ℤ pos 1 +ℤ b) *ℤ p ≡ (x -ℤ pos 1) *ℤ p +ℤ b *ℤ p
    down x ih =
        let left : (x -ℤ pos 1 +ℤ b) *ℤ p ≡ (x +ℤ b) *ℤ p -ℤ p = ap (λ y. (y +ℤ b) *ℤ p) (-ℤ_one x) ∙ ap (λ y. y *ℤ p) (pred_ℤ-+ℤ x b) ∙ pred_ℤ-*ℤ (x +ℤ b) p in
        let right : (x -ℤ pos 1) *ℤ p ≡ x *ℤ p -ℤ p = ap (λ y. y *ℤ p) (-ℤ_one x) ∙ pred_ℤ-*ℤ x p in
        left ∙ ap (λ y. y -ℤ p) ih ∙ swap_minus (x *ℤ p) (b *ℤ p) p ∙ ap (λ y. y +ℤ b *ℤ p) (sym right)

-- a factor that is not negative keeps the order, and a negative one turns it
pub mul_rises : (m : ℕ) (a b : ℤ) → a ≤ℤ b → (pos m *ℤ a) ≤ℤ (pos m *ℤ b)
mul_rises zero a b below = let x = zero-*ℤ a in let y = zero-*ℤ b in omega (arith, ints)
mul_rises (suc m) a b below =
    let rest = mul_rises m a b below in
    let x : pos (suc m) *ℤ a ≡ pos m *ℤ a +ℤ a = suc_ℤ-*ℤ (pos m) a in
    let y : pos (suc m) *ℤ b ≡ pos m *ℤ b +ℤ b = suc_ℤ-*ℤ (pos m) b in
    omega (arith, ints)

pub mul_falls : (m : ℕ) (a b : ℤ) → a ≤ℤ b → (negsuc m *ℤ b) ≤ℤ (negsuc m *ℤ a)
mul_falls m a b below =
    let rest = mul_rises (suc m) a b below in
    let x : negsuc m *ℤ a ≡ neg_ℤ (pos (suc m) *ℤ a) = *ℤ_comm (negsuc m) a ∙ *ℤ-negsuc a m ∙ ap neg_ℤ (*ℤ_comm a (pos (suc m))) in
    let y : negsuc m *ℤ b ≡ neg_ℤ (pos (suc m) *ℤ b) = *ℤ_comm (negsuc m) b ∙ *ℤ-negsuc b m ∙ ap neg_ℤ (*ℤ_comm b (pos (suc m))) in
    omega (arith, ints)
