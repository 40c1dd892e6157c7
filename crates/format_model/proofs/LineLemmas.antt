-- Entries dealt out to lines: where each entry's line is listed once, the lines together have each entry once.
use Rattle.std.proofs.Common.{◌≡◌, ℕ, cond, ◌==◌, List, [], ◌∷◌, ◌++◌, filter, All, sym, ap, ◌∙◌, subst, refl, ⊎_elim, arith}
use Rattle.std.specs.List.{count_by, flat_map}
use Rattle.std.specs.List.Sorted.{IsPermutation}
use Rattle.std.proofs.lemmas.Bool.{cond-true, cond-false, eq-eqb, ne_eqb, cases_eq}
use Rattle.std.proofs.lemmas.List.Elements.{All-head, All-tail}
use Rattle.std.proofs.lemmas.List.Sums.{sum_by-cons}
use Rattle.std.proofs.lemmas.List.Sorted.{IsPermutation-refl, IsPermutation-sym, IsPermutation-trans, IsPermutation-cons, IsPermutation-append_right, IsPermutation-middle}

-- how often a list has a number
abbrev pub count_of : ℕ → List ℕ → ℕ
count_of x xs = count_by (λ y. y == x) xs

-- the elements of these lines, line after line
abbrev pub dealt : {X : Type 0} → (X → ℕ) → List X → List ℕ → List X
dealt key es lines = flat_map (λ l. filter (λ e. key e == l) es) lines

-- an element whose line is not among these adds to none of them
dealt_nowhere : {X : Type 0} (key : X → ℕ) (e : X) (es : List X) (lines : List ℕ) → count_of (key e) lines ≡ 0 → dealt key (e ∷ es) lines ≡ dealt key es lines
dealt_nowhere key e es [] none = refl
dealt_nowhere key e es (l ∷ lines) none =
    let sum = sum_by-cons (λ y. cond (y == key e) 1 0) l lines in ⊎_elim
    (λ (same : key e ≡ l). absurd (omega (arith, none, sum, cond-true {A = ℕ} (l == key e) 1 0 (eq-eqb l (key e) (sym same)))))
    (λ (other : key e ≡ l → ⊥).
    ap (λ xs. xs ++ dealt key (e ∷ es) lines) (cond-false (key e == l) (e ∷ filter (λ x. key x == l) es) (filter (λ x. key x == l) es) (ne_eqb (key e) l other))
    ∙ ap (λ xs. filter (λ x. key x == l) es ++ xs) (dealt_nowhere key e es lines (omega (arith, none, sum))))
    (cases_eq (key e) l)

-- an element whose line is among these once adds to that line
dealt_once : {X : Type 0} (key : X → ℕ) (e : X) (es : List X) (lines : List ℕ) → count_of (key e) lines ≡ 1 → IsPermutation (e ∷ dealt key es lines) (dealt key (e ∷ es) lines)
dealt_once key e es [] once = absurd (omega (arith, once))
dealt_once {X} key e es (l ∷ lines) once =
    let sum = sum_by-cons (λ y. cond (y == key e) 1 0) l lines in
    let here : List X = filter (λ x. key x == l) es in
    let rest : List X = dealt key es lines in ⊎_elim
    (λ (same : key e ≡ l).
    let none : count_of (key e) lines ≡ 0 = omega (arith, once, sum, cond-true {A = ℕ} (l == key e) 1 0 (eq-eqb l (key e) (sym same))) in
    let line : filter (λ x. key x == l) (e ∷ es) ≡ e ∷ here = cond-true (key e == l) (e ∷ here) here (eq-eqb (key e) l same) in
    let all : dealt key (e ∷ es) (l ∷ lines) ≡ e ∷ (here ++ rest) = ap (λ xs. xs ++ dealt key (e ∷ es) lines) line ∙ ap (λ xs. (e ∷ here) ++ xs) (dealt_nowhere key e es lines none) in
    subst (λ ys. IsPermutation (e ∷ (here ++ rest)) ys) (sym all) (IsPermutation-refl (e ∷ (here ++ rest))))
    (λ (other : key e ≡ l → ⊥).
    let left : count_of (key e) lines ≡ 1 = omega (arith, once, sum, cond-false {A = ℕ} (l == key e) 1 0 (ne_eqb l (key e) (λ same. other (sym same)))) in
    let line : filter (λ x. key x == l) (e ∷ es) ≡ here = cond-false (key e == l) (e ∷ here) here (ne_eqb (key e) l other) in
    let later : List X = dealt key (e ∷ es) lines in
    subst (λ ys. IsPermutation (e ∷ (here ++ rest)) ys) (ap (λ xs. xs ++ later) (sym line))
    (IsPermutation-trans (e ∷ (here ++ rest)) (here ++ e ∷ rest) (here ++ later)
    (IsPermutation-sym (here ++ e ∷ rest) (e ∷ (here ++ rest)) (IsPermutation-middle here e rest))
    (IsPermutation-append_right here (e ∷ rest) later (dealt_once key e es lines left))))
    (cases_eq (key e) l)

dealt_none : {X : Type 0} (key : X → ℕ) (lines : List ℕ) → dealt key [] lines ≡ []
dealt_none key [] = refl
dealt_none key (l ∷ lines) = dealt_none key lines

-- the lines together have each element once
pub dealt-permutation : {X : Type 0} (key : X → ℕ) (es : List X) (lines : List ℕ) → All (λ e. count_of (key e) lines ≡ 1) es → IsPermutation es (dealt key es lines)
dealt-permutation {X} key [] lines each = subst (λ ys. IsPermutation {X = X} [] ys) (sym (dealt_none key lines)) (IsPermutation-refl [])
dealt-permutation {X} key (e ∷ es) lines each =
    let first = All-head (λ x. count_of (key x) lines ≡ 1) e es each in
    let rest = All-tail (λ x. count_of (key x) lines ≡ 1) e es each in
    IsPermutation-trans (e ∷ es) (e ∷ dealt key es lines) (dealt key (e ∷ es) lines)
    (IsPermutation-cons e es (dealt key es lines) (dealt-permutation key es lines rest))
    (dealt_once key e es lines first)
