-- Lists with one element more: what stands where.
use Rattle.std.proofs.Common.{◌≡◌, ◌≢◌, ℕ, zero, suc, ◌+◌, ◌*◌, ◌≤◌, List, [], ◌∷◌, ◌++◌, length, slice_index_or, refl, sym, ap, ◌∙◌, arith}
use Rattle.std.proofs.lemmas.List.{get_or_push}

module _ {A : Type 0} where
  -- nothing stands beyond the end
  pub beyond : (xs : List A) (i : ℕ) (d : A) → length xs ≤ i → slice_index_or xs i d ≡ d
  beyond [] i d h = refl
  beyond (x ∷ xs) zero d h = absurd (omega arith)
  beyond (x ∷ xs) (suc i) d h = beyond xs i d (omega arith)

  -- elsewhere than at its end a list that grows is as it was
  pub push_other : (xs : List A) (y : A) (i : ℕ) (d : A) → i ≢ length xs → slice_index_or (xs ++ y ∷ []) i d ≡ slice_index_or xs i d
  push_other [] y zero d other = absurd (other refl)
  push_other [] y (suc i) d other = refl
  push_other (x ∷ xs) y zero d other = refl
  push_other (x ∷ xs) y (suc i) d other = push_other xs y i d (λ e. other (ap suc e))

  pub push_here : (xs : List A) (y : A) (i : ℕ) (d : A) → i ≡ length xs → slice_index_or (xs ++ y ∷ []) i d ≡ y
  push_here xs y i d e = get_or_push xs y d i (sym e)

  none_from_length : (xs : List A) → length xs ≡ 0 → xs ≡ []
  none_from_length [] e = refl
  none_from_length (x ∷ xs) e = absurd (omega (arith, e))

  -- a list whose length is 0, by another name
  pub none_left : (xs : List A) (n : ℕ) → n ≡ length xs → n ≡ 0 → xs ≡ []
  none_left xs n e zero_is = none_from_length xs (sym e ∙ zero_is)

-- the square of the next number
pub square-next : (n : ℕ) → (n + 1) * (n + 1) ≡ n * n + 2 * n + 1
square-next n = grind arith
