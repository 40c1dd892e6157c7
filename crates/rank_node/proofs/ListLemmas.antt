-- An element by its index, as code reads it and as contracts do.
use Rattle.std.proofs.Common.{◌≡◌, ℕ, ◌+◌, ◌<◌, ◌≤◌, List, [], ◌∷◌, Some, length, replicate, refl, inl, inr, arith}
use Rattle.std.proofs.lemmas.Bool.{cases_eq}
use Rattle.std.proofs.lemmas.List.{length-replicate}

-- what holds of the first n numbers and of the next one
pub below_next : (P : ℕ → Type 0) (n : ℕ) → ((k : ℕ) → k < n → P k) → P n → (k : ℕ) → k < n + 1 → P k
below_next P n before here k below = elim (cases_eq k n) [ inl e ↦ rw e here | inr other ↦ before k (omega arith) ]

pub some_length : {A : Type 0} (xs : List A) → (xs ≡ [] → ⊥) → 1 ≤ length xs
some_length [] some = absurd (some refl)
some_length (x ∷ xs) some = omega arith

pub some_same : {A : Type 0} {x y : A} → Some x ≡ Some y → x ≡ y
some_same e = cc

pub length-zeros : (n : ℕ) → length (replicate n (let none : ℕ = 0 in none)) ≡ n
length-zeros n = length-replicate n (let none : ℕ = 0 in none)
