-- The terms of an expression, counted.
use Rattle.std.proofs.Common.{◌≡◌, ◌∙◌, ◌⊎◌, inl, inr, ◌≢◌, false, ◌||◌, nat_eq, nat_lt, ℕ, zero, suc, ◌+◌, ◌*◌, ◌≤◌, List, [], ◌∷◌, ◌++◌, length, length-append, map, min, max, refl, ap, sym, arith}
use Rattle.std.proofs.Math.Nat.{mul-le-mul}
use Rattle.std.proofs.lemmas.List.{length-map}
use Rattle.std.specs.List.{list_any}
use Rattle.std.proofs.lemmas.Bool.Decides.{nat_tests}
use Rattle.job_rules.specs.declared.terms.Size.{Size}
use Rattle.job_model.specs.References.{joined}
use Rattle.job_rules.specs.Terms.{most, size_of, has_too_many}

pub most-append : (xs ys : List ℕ) → most (xs ++ ys) ≡ max (most xs) (most ys)
most-append [] ys = omega arith
most-append (x ∷ xs) ys = let rest = most-append xs ys in omega arith

pub length-joined : (xs ys : List ℕ) → length (joined xs ys) ≡ length xs * length ys
length-joined [] ys = omega arith
length-joined (x ∷ xs) ys =
    let rest = length-joined xs ys in
    let first = length-map ys (λ b. x + b) in
    omega (arith, length-append (map (λ b. x + b) ys) (joined xs ys))

most-map : (a y : ℕ) (ys : List ℕ) → most (map (λ b. a + b) (y ∷ ys)) ≡ a + most (y ∷ ys)
most-map a y [] = omega arith
most-map a y (z ∷ ys) = let rest = most-map a z ys in omega arith

most-joined : (x : ℕ) (xs : List ℕ) (y : ℕ) (ys : List ℕ) → most (joined (x ∷ xs) (y ∷ ys)) ≡ most (x ∷ xs) + most (y ∷ ys)
most-joined x [] y ys =
    let first = most-map x y ys in
    omega (arith, most-append (map (λ b. x + b) (y ∷ ys)) [])
most-joined x (z ∷ xs) y ys =
    let first = most-map x y ys in
    let rest = most-joined z xs y ys in
    omega (arith, most-append (map (λ b. x + b) (y ∷ ys)) (joined (z ∷ xs) (y ∷ ys)))

le_or_le : (a n : ℕ) → (a ≤ n) ⊎ (n ≤ a)
le_or_le zero n = inl (omega arith)
le_or_le (suc a) zero = inr (omega arith)
le_or_le (suc a) (suc n) = elim (le_or_le a n) [ inl h ↦ inl (omega arith) | inr h ↦ inr (omega arith) ]

-- past the limit one number serves for all, also in a product
cap-some : (a b : ℕ) → min 17 (suc a * suc b) ≡ min 17 (min 17 (suc a) * min 17 (suc b))
cap-some a b = elim (le_or_le (suc a) 17) [
  | inl p ↦ elim (le_or_le (suc b) 17) [
    | inl q ↦ (let x : min 17 (suc a) ≡ suc a = omega arith in let y : min 17 (suc b) ≡ suc b = omega arith in sym (ap (λ k. min 17 (k * min 17 (suc b))) x ∙ ap (λ k. min 17 (suc a * k)) y))
    | inr q ↦ (let x : min 17 (suc b) ≡ 17 = omega arith in
        let one : 1 ≤ suc a = omega arith in let left = mul-le-mul one q in let few : 1 ≤ min 17 (suc a) = omega arith in let full : 17 ≤ 17 = omega arith in let right = mul-le-mul few full in
        sym (ap (λ k. min 17 (min 17 (suc a) * k)) x ∙ omega arith))
  ]
  | inr p ↦ (let x : min 17 (suc a) ≡ 17 = omega arith in
      let one : 1 ≤ suc b = omega arith in let left = mul-le-mul p one in let few : 1 ≤ min 17 (suc b) = omega arith in let full : 17 ≤ 17 = omega arith in let right = mul-le-mul full few in
      sym (ap (λ k. min 17 (k * min 17 (suc b))) x ∙ omega arith))
]

pub or_is : (self other : Size) (xs ys : List ℕ) (t m : ℕ) → self ≡ size_of xs → other ≡ size_of ys → t ≡ min (min self.terms 17 + min other.terms 17) 17 → m ≡ max self.most other.most
    → (let size : Size = record { terms = t; most = m } in size ≡ size_of (xs ++ ys))
or_is self other xs ys t m first second is_t is_m =
    let a : self.terms ≡ min 17 (length xs) = ap (λ s. s.terms) first in
    let b : other.terms ≡ min 17 (length ys) = ap (λ s. s.terms) second in
    let p : self.most ≡ min 5 (most xs) = ap (λ s. s.most) first in
    let q : other.most ≡ min 5 (most ys) = ap (λ s. s.most) second in
    let terms : t ≡ min 17 (length (xs ++ ys)) = omega (arith, length-append xs ys) in
    let mosts : m ≡ min 5 (most (xs ++ ys)) = omega (arith, most-append xs ys) in
    λ i. record { terms = terms i; most = mosts i }

pub times_some : (self other : Size) (xs ys : List ℕ) (n t m : ℕ) → self ≡ size_of xs → other ≡ size_of ys → n ≡ min self.terms 17 * min other.terms 17 → n ≢ 0 → t ≡ min n 17
    → m ≡ min (min self.most 5 + min other.most 5) 5 → (let size : Size = record { terms = t; most = m } in size ≡ size_of (joined xs ys))
times_some self other [] ys n t m first second is_n some is_t is_m =
    let a : self.terms ≡ 0 = ap (λ s. s.terms) first in
    let z : min self.terms 17 ≡ 0 = omega arith in
    let nn : n ≡ 0 * min other.terms 17 = is_n ∙ ap (λ k. k * min other.terms 17) z in
    absurd (some (nn ∙ omega arith))
times_some self other (x ∷ xs) [] n t m first second is_n some is_t is_m =
    let a : other.terms ≡ 0 = ap (λ s. s.terms) second in
    let z : min other.terms 17 ≡ 0 = omega arith in
    let nn : n ≡ min self.terms 17 * 0 = is_n ∙ ap (λ k. min self.terms 17 * k) z in
    absurd (some (nn ∙ omega arith))
times_some self other (x ∷ xs) (y ∷ ys) n t m first second is_n some is_t is_m =
    let a : self.terms ≡ min 17 (length (x ∷ xs)) = ap (λ s. s.terms) first in
    let b : other.terms ≡ min 17 (length (y ∷ ys)) = ap (λ s. s.terms) second in
    let p : self.most ≡ min 5 (most (x ∷ xs)) = ap (λ s. s.most) first in
    let q : other.most ≡ min 5 (most (y ∷ ys)) = ap (λ s. s.most) second in
    let aa : min self.terms 17 ≡ min 17 (suc (length xs)) = omega arith in
    let bb : min other.terms 17 ≡ min 17 (suc (length ys)) = omega arith in
    let nn : n ≡ min 17 (suc (length xs)) * min 17 (suc (length ys)) = is_n ∙ ap (λ k. k * min other.terms 17) aa ∙ ap (λ k. min 17 (suc (length xs)) * k) bb in
    let terms : t ≡ min 17 (length (joined (x ∷ xs) (y ∷ ys))) = omega (arith, cap-some (length xs) (length ys), length-joined (x ∷ xs) (y ∷ ys)) in
    let mosts : m ≡ min 5 (most (joined (x ∷ xs) (y ∷ ys))) = omega (arith, most-joined x xs y ys) in
    λ i. record { terms = terms i; most = mosts i }

joined-none : (xs : List ℕ) → joined xs [] ≡ []
joined-none [] = refl
joined-none (x ∷ xs) = joined-none xs

pub times_none : (self other : Size) (xs ys : List ℕ) (n : ℕ) → self ≡ size_of xs → other ≡ size_of ys → n ≡ min self.terms 17 * min other.terms 17 → n ≡ 0
    → (let size : Size = record { terms = 0; most = 0 } in size ≡ size_of (joined xs ys))
times_none self other [] ys n first second is_n none = λ i. record { terms = 0; most = 0 }
times_none self other (x ∷ xs) [] n first second is_n none = ap size_of (sym (joined-none (x ∷ xs)))
times_none self other (x ∷ xs) (y ∷ ys) n first second is_n none =
    let a : self.terms ≡ min 17 (suc (length xs)) = ap (λ s. s.terms) first in
    let b : other.terms ≡ min 17 (suc (length ys)) = ap (λ s. s.terms) second in
    let left : 1 ≤ min self.terms 17 = omega arith in
    let right : 1 ≤ min other.terms 17 = omega arith in
    absurd (omega (arith, mul-le-mul left right))

most_any : (xs : List ℕ) → list_any (nat_lt 4) xs ≡ nat_lt 4 (most xs)
most_any [] = refl
most_any (x ∷ xs) = ap (λ rest. nat_lt 4 x || rest) (most_any xs) ∙ either x (most xs)
  where
    either : (x y : ℕ) → (nat_lt 4 x || nat_lt 4 y) ≡ nat_lt 4 (max x y)
    either x y = grind (arith, nat_tests)

-- more than 16 terms, or more than 4 references
pub too_many_is : (xs : List ℕ) → (nat_eq (min 17 (length xs)) 17 || nat_eq (min 5 (most xs)) 5) ≡ has_too_many xs
too_many_is xs = let some = most_any xs in grind (arith, nat_tests)

pub size_tells : (size : Size) (xs : List ℕ) → size ≡ size_of xs → size.terms ≢ 17 → nat_eq size.most 5 ≡ has_too_many xs
size_tells size xs is other =
    let count : size.terms ≡ min 17 (length xs) = ap (λ s. s.terms) is in
    let few : nat_eq (min 17 (length xs)) 17 ≡ false = grind (arith, nat_tests) in
    ap (λ s. nat_eq s.most 5) is ∙ sym (ap (λ b. b || nat_eq (min 5 (most xs)) 5) few) ∙ too_many_is xs
