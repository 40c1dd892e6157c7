-- The variables for which a subscript waits, gone over from the last one to the first.
use Rattle.std.proofs.Common.{◌≡◌, ◌∙◌, ℕ, zero, suc, ◌+◌, ◌<◌, ◌==◌, Bool, true, false, ◌&&◌, cond, List, [], ◌∷◌, drop, length, get_or, refl, sym, ap, subst, lit<, arith}
use Rattle.std.specs.List.{filter}
use Rattle.std.proofs.lemmas.Bool.{ne_eqb}
use Rattle.term_model.specs.Plans.{is_only, four}

-- what is left from a variable on
pub left : (ℕ → Bool) → ℕ → List ℕ
left p v = filter p (drop v four)

-- one variable more
pub left_more : (p : ℕ → Bool) (v : ℕ) → v < 4 → left p v ≡ cond (p v) (v ∷ left p (suc v)) (left p (suc v))
unfolding left
left_more p zero below = refl
left_more p (suc zero) below = refl
left_more p (suc (suc zero)) below = refl
left_more p (suc (suc (suc zero))) below = refl
left_more p (suc (suc (suc (suc v)))) below = absurd (omega (arith, below))

pub more_true : (p : ℕ → Bool) (v w : ℕ) → w < 4 → v ≡ suc w → p w ≡ true → left p w ≡ w ∷ left p v
more_true p v w below is pass = left_more p w below ∙ ap (λ b. cond b (w ∷ left p (suc w)) (left p (suc w))) pass ∙ ap (λ u. w ∷ left p u) (sym is)

pub more_false : (p : ℕ → Bool) (v w : ℕ) → w < 4 → v ≡ suc w → p w ≡ false → left p w ≡ left p v
more_false p v w below is fail = left_more p w below ∙ ap (λ b. cond b (w ∷ left p (suc w)) (left p (suc w))) fail ∙ ap (left p) (sym is)

pub left_all : (p : ℕ → Bool) → left p 0 ≡ filter p four
unfolding left
left_all p = refl

pub left_none : (p : ℕ → Bool) → left p 4 ≡ []
unfolding left
left_none p = refl

-- a list has this variable alone where it has one item, which is it
pub only_one : (v : ℕ) (xs : List ℕ) → (length xs == 1 && get_or xs 0 4 == v) ≡ is_only v xs
only_one v [] = refl
only_one v (w ∷ []) = refl
only_one v (w ∷ x ∷ ws) = ap (λ b. b && w == v) (ne_eqb (suc (suc (length ws))) 1 (λ is. omega (arith, is)))
