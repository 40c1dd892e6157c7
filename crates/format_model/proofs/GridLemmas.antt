-- Elements by their rows or by their columns: the same ones, and by rows in the order of their numbers.
use Rattle.std.proofs.Common.{◌≡◌, ℕ, zero, suc, ◌+◌, ◌*◌, List, [], ◌∷◌, ◌++◌, map, All, sym, ap, ◌∙◌, subst, refl, arith}
use Rattle.std.specs.List.{flat_map, range_with_len}
use Rattle.std.specs.List.Sorted.{IsPermutation}
use Rattle.std.proofs.lemmas.List.{append_assoc, map-append}
use Rattle.std.proofs.lemmas.List.Elements.{All-head, All-tail}
use Rattle.std.proofs.lemmas.List.Sorted.{IsPermutation-refl, IsPermutation-trans, IsPermutation-cons, IsPermutation-append_left, IsPermutation-append_right, IsPermutation-append_comm}

-- for each x in turn, f x y for each y in turn
abbrev pub grid : {X Y Z : Type 0} → (X → Y → Z) → List X → List Y → List Z
grid f xs ys = flat_map (λ x. map (f x) ys) xs

pub map_same : {X Y : Type 0} (f g : X → Y) (xs : List X) → All (λ x. f x ≡ g x) xs → map f xs ≡ map g xs
map_same f g [] same = refl
map_same f g (x ∷ xs) same =
    ap (λ y. y ∷ map f xs) (All-head (λ z. f z ≡ g z) x xs same) ∙ ap (λ ys. g x ∷ ys) (map_same f g xs (All-tail (λ z. f z ≡ g z) x xs same))

pub flat_map_same : {X Y : Type 0} (f g : X → List Y) (xs : List X) → All (λ x. f x ≡ g x) xs → flat_map f xs ≡ flat_map g xs
flat_map_same f g [] same = refl
flat_map_same f g (x ∷ xs) same =
    ap (λ ys. ys ++ flat_map f xs) (All-head (λ z. f z ≡ g z) x xs same) ∙ ap (λ ys. g x ++ ys) (flat_map_same f g xs (All-tail (λ z. f z ≡ g z) x xs same))

pub flat_map_permutation : {X Y : Type 0} (f g : X → List Y) (xs : List X) → All (λ x. IsPermutation (f x) (g x)) xs → IsPermutation (flat_map f xs) (flat_map g xs)
flat_map_permutation f g [] each = IsPermutation-refl []
flat_map_permutation f g (x ∷ xs) each =
    IsPermutation-trans (f x ++ flat_map f xs) (g x ++ flat_map f xs) (g x ++ flat_map g xs)
    (IsPermutation-append_left (flat_map f xs) (f x) (g x) (All-head (λ z. IsPermutation (f z) (g z)) x xs each))
    (IsPermutation-append_right (g x) (flat_map f xs) (flat_map g xs) (flat_map_permutation f g xs (All-tail (λ z. IsPermutation (f z) (g z)) x xs each)))

-- ---- ranges by rows

pub range-append : (a m n : ℕ) → range_with_len a (m + n) ≡ range_with_len a m ++ range_with_len (a + m) n
range-append a zero n = let e : 0 + n ≡ n = omega arith in let f : a + 0 ≡ a = omega arith in rw (e, f) refl
range-append a (suc m) n =
    let e : suc m + n ≡ suc (m + n) = omega arith in let f : a + 1 + m ≡ a + suc m = omega arith in
    ap (range_with_len a) e ∙ ap (λ xs. a ∷ xs) (range-append (a + 1) m n ∙ ap (λ b. range_with_len (a + 1) m ++ range_with_len b n) f)

pub map-shifted : {X : Type 0} (f : ℕ → X) (a b n : ℕ) → map f (range_with_len (a + b) n) ≡ map (λ i. f (a + i)) (range_with_len b n)
map-shifted f a b zero = refl
map-shifted f a b (suc n) = let e : a + b + 1 ≡ a + (b + 1) = omega arith in ap (λ k. f (a + b) ∷ map f (range_with_len k n)) e ∙ ap (λ xs. f (a + b) ∷ xs) (map-shifted f a (b + 1) n)

by_rows : {X : Type 0} (f : ℕ → X) (c l n : ℕ) → map f (range_with_len (l * c) (n * c)) ≡ grid (λ k i. f (k * c + i)) (range_with_len l n) (range_with_len 0 c)
by_rows f c l zero = let e : 0 * c ≡ 0 = omega arith in rw e refl
by_rows f c l (suc n) =
    let e : suc n * c ≡ c + n * c = omega arith in
    let first : l * c ≡ l * c + 0 = omega arith in
    let next : l * c + c ≡ (l + 1) * c = omega arith in
    ap (λ k. map f (range_with_len (l * c) k)) e ∙ ap (map f) (range-append (l * c) c (n * c)) ∙ map-append f (range_with_len (l * c) c) (range_with_len (l * c + c) (n * c))
    ∙ ap (λ k. map f (range_with_len k c) ++ map f (range_with_len (l * c + c) (n * c))) first
    ∙ ap (λ xs. xs ++ map f (range_with_len (l * c + c) (n * c))) (map-shifted f (l * c) 0 c)
    ∙ ap (λ k. map (λ i. f (l * c + i)) (range_with_len 0 c) ++ map f (range_with_len k (n * c))) next
    ∙ ap (λ xs. map (λ i. f (l * c + i)) (range_with_len 0 c) ++ xs) (by_rows f c (l + 1) n)

-- a function of the element number, by rows
pub map-by_rows : {X : Type 0} (f : ℕ → X) (rows cols : ℕ) → map f (range_with_len 0 (rows * cols)) ≡ grid (λ r c. f (r * cols + c)) (range_with_len 0 rows) (range_with_len 0 cols)
map-by_rows f rows cols = let e : 0 * cols ≡ 0 = omega arith in ap (λ k. map f (range_with_len k (rows * cols))) (sym e) ∙ by_rows f cols 0 rows

-- ---- rows and columns exchanged

swap_fronts : {X : Type 0} (xs ys zs : List X) → IsPermutation (xs ++ (ys ++ zs)) (ys ++ (xs ++ zs))
swap_fronts xs ys zs =
    subst (λ l. IsPermutation (xs ++ (ys ++ zs)) l) (append_assoc ys xs zs)
    (subst (λ l. IsPermutation l ((ys ++ xs) ++ zs)) (append_assoc xs ys zs) (IsPermutation-append_left zs (xs ++ ys) (ys ++ xs) (IsPermutation-append_comm xs ys)))

column_more : {Y Z : Type 0} (g : Y → Z) (h : Y → List Z) (ys : List Y) → IsPermutation (map g ys ++ flat_map h ys) (flat_map (λ y. g y ∷ h y) ys)
column_more g h [] = IsPermutation-refl []
column_more {Y} {Z} g h (y ∷ ys) =
    let gs : List Z = map g ys in
    let hs : List Z = flat_map h ys in
    IsPermutation-cons (g y) (gs ++ (h y ++ hs)) (h y ++ flat_map (λ z. g z ∷ h z) ys)
    (IsPermutation-trans (gs ++ (h y ++ hs)) (h y ++ (gs ++ hs)) (h y ++ flat_map (λ z. g z ∷ h z) ys)
    (swap_fronts gs (h y) hs)
    (IsPermutation-append_right (h y) (gs ++ hs) (flat_map (λ z. g z ∷ h z) ys) (column_more g h ys)))

grid_none : {X Y Z : Type 0} (f : X → Y → Z) (ys : List Y) → flat_map (λ y. map (λ x. f x y) []) ys ≡ []
grid_none f [] = refl
grid_none f (y ∷ ys) = grid_none f ys

pub grid-exchanged : {X Y Z : Type 0} (f : X → Y → Z) (xs : List X) (ys : List Y) → IsPermutation (grid f xs ys) (grid (λ y x. f x y) ys xs)
grid-exchanged {X} {Y} {Z} f [] ys = subst (λ zs. IsPermutation [] zs) (sym (grid_none f ys)) (IsPermutation-refl [])
grid-exchanged f (x ∷ xs) ys =
    IsPermutation-trans (map (f x) ys ++ grid f xs ys) (map (f x) ys ++ grid (λ y z. f z y) ys xs) (grid (λ y z. f z y) ys (x ∷ xs))
    (IsPermutation-append_right (map (f x) ys) (grid f xs ys) (grid (λ y z. f z y) ys xs) (grid-exchanged f xs ys))
    (column_more (f x) (λ y. map (λ z. f z y) xs) ys)
