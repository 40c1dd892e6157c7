-- Children that are made place by place: those of every stored level. Place k of a level has the index f k and the child g k.
use Rattle.std.proofs.Common.{◌≡◌, ℕ, zero, suc, ◌+◌, ◌<◌, ◌≤◌, List, ◌∷◌, length, map, get_or, Some, None, ⊎_elim, refl, sym, ap, ◌∙◌, subst, arith}
use Rattle.std.specs.List.{All, AllPairs, count_by, filter, range_with_len, slice_get}
use Rattle.std.specs.Prelude.{◌==◌}
use Rattle.std.proofs.lemmas.Bool.{cond-true, cond-false, eq-eqb, ne_eqb, cases_eq}
use Rattle.std.proofs.lemmas.List.Elements.{All-nil, All-cons}
use Rattle.std.proofs.lemmas.List.FromFn.{length-map-range_with_len, get_or-map-range_with_len}
use Rattle.std.proofs.lemmas.List.Sums.{length-filter}
use Rattle.std.proofs.lemmas.Option.{slice_get-get_or}
use Rattle.format_model.specs.Trees.{child_at}

-- the children at the places from a on, n of them
abbrev pub made : (ℕ → ℕ) → (ℕ → ℕ) → ℕ → ℕ → List (ℕ × ℕ)
made f g a n = map (λ k. (f k, g k)) (range_with_len a n)

pub length-made : (f g : ℕ → ℕ) (a n : ℕ) → length (made f g a n) ≡ n
length-made f g a n = length-map-range_with_len (λ k. (f k, g k)) a n

get_or-made : (f g : ℕ → ℕ) (a n i : ℕ) (d : ℕ × ℕ) → i < n → get_or (made f g a n) i d ≡ (f (a + i), g (a + i))
get_or-made f g a n i d below = get_or-map-range_with_len (λ k. (f k, g k)) a n i (a + i) d below refl

-- the child at a place
pub made_at : (f g : ℕ → ℕ) (a n i : ℕ) → i < n → slice_get (made f g a n) i ≡ Some (f (a + i), g (a + i))
made_at f g a n i below =
    slice_get-get_or (made f g a n) i (0, 0) (subst (λ m. i < m) (sym (length-made f g a n)) below) ∙ ap Some (get_or-made f g a n i (0, 0) below)

-- what holds of each child holds of all
pub made_all : (P : ℕ × ℕ → Type 0) (f g : ℕ → ℕ) (a n : ℕ) → ((k : ℕ) → a ≤ k → k < a + n → P (f k, g k)) → All P (made f g a n)
made_all P f g a zero each = All-nil P
made_all P f g a (suc n) each =
    All-cons P (f a, g a) (made f g (a + 1) n) (each a (omega arith) (omega arith)) (made_all P f g (a + 1) n (λ k low high. each k (omega arith) (omega arith)))

-- where the indices of the places rise, those of the children do
pub made_rises : (f g : ℕ → ℕ) (a n : ℕ) → ((i j : ℕ) → a ≤ i → i < j → j < a + n → f i < f j) → AllPairs (λ x y. x.0 < y.0) (made f g a n)
made_rises f g a n rises i j d up within =
    let below : j < n = subst (λ m. j < m) (length-made f g a n) within in
    rw (get_or-made f g a n i d (omega arith), get_or-made f g a n j d below) (rises (a + i) (a + j) (omega arith) (omega arith) (omega arith))

-- an index that stands at a place, and at none before it, is found there
pub made_found : (f g : ℕ → ℕ) (a n k : ℕ) → a ≤ k → k < a + n → ((j : ℕ) → a ≤ j → j < k → f j ≡ f k → ⊥) → child_at (made f g a n) (f k) ≡ Some (g k)
made_found f g a zero k low high first = absurd (omega arith)
made_found f g a (suc n) k low high first = ⊎_elim
    (λ (here : a ≡ k). cond-true (f a == f k) (Some (g a)) (child_at (made f g (a + 1) n) (f k)) (eq-eqb (f a) (f k) (ap f here)) ∙ ap (λ i. Some (g i)) here)
    (λ (later : a ≡ k → ⊥).
    cond-false (f a == f k) (Some (g a)) (child_at (made f g (a + 1) n) (f k)) (ne_eqb (f a) (f k) (first a (omega arith) (omega (arith, later)))) ∙ made_found f g (a + 1) n k (omega (arith, later)) (omega arith) (λ j from to. first j (omega arith) to))
    (cases_eq a k)

-- an index that stands at no place is not found
pub made_none : (f g : ℕ → ℕ) (a n index : ℕ) → ((k : ℕ) → a ≤ k → k < a + n → f k ≡ index → ⊥) → child_at (made f g a n) index ≡ None
made_none f g a zero index other = refl
made_none f g a (suc n) index other =
    cond-false (f a == index) (Some (g a)) (child_at (made f g (a + 1) n) index) (ne_eqb (f a) index (other a (omega arith) (omega arith))) ∙ made_none f g (a + 1) n index (λ k low high. other k (omega arith) (omega arith))

-- an index that stands at no place is kept nowhere
none_kept : (f g : ℕ → ℕ) (a n index : ℕ) → ((k : ℕ) → a ≤ k → k < a + n → f k ≡ index → ⊥) → length (filter (λ c. c.0 == index) (made f g a n)) ≡ 0
none_kept f g a zero index other = refl
none_kept f g a (suc n) index other =
    let rest : List (ℕ × ℕ) = filter (λ c. c.0 == index) (made f g (a + 1) n) in
    ap length (cond-false (f a == index) ((f a, g a) ∷ rest) rest (ne_eqb (f a) index (other a (omega arith) (omega arith)))) ∙ none_kept f g (a + 1) n index (λ k low high. other k (omega arith) (omega arith))

once_kept : (f g : ℕ → ℕ) (a n index : ℕ) → ((i j : ℕ) → a ≤ i → i < j → j < a + n → f i ≡ f j → ⊥) → length (filter (λ c. c.0 == index) (made f g a n)) ≤ 1
once_kept f g a zero index apart = omega arith
once_kept f g a (suc n) index apart =
    let rest : List (ℕ × ℕ) = filter (λ c. c.0 == index) (made f g (a + 1) n) in ⊎_elim
    (λ (same : f a ≡ index).
    let none : length rest ≡ 0 = none_kept f g (a + 1) n index (λ k low high other. apart a k (omega arith) (omega arith) (omega arith) (same ∙ sym other)) in
    let here = ap length (cond-true (f a == index) ((f a, g a) ∷ rest) rest (eq-eqb (f a) index same)) in omega (arith, none, here))
    (λ (other : f a ≡ index → ⊥).
    let later : length rest ≤ 1 = once_kept f g (a + 1) n index (λ i j low up high. apart i j (omega arith) up (omega arith)) in
    let here = ap length (cond-false (f a == index) ((f a, g a) ∷ rest) rest (ne_eqb (f a) index other)) in omega (arith, later, here))
    (cases_eq (f a) index)

-- where no index stands at two places, none stands twice among the children
pub made_once : (f g : ℕ → ℕ) (a n index : ℕ) → ((i j : ℕ) → a ≤ i → i < j → j < a + n → f i ≡ f j → ⊥) → count_by (λ c. c.0 == index) (made f g a n) ≤ 1
made_once f g a n index apart =
    subst (λ m. m ≤ 1) (length-filter (λ c. c.0 == index) (made f g a n)) (once_kept f g a n index apart)
