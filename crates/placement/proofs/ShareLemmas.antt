-- A list dealt out by a key is the list in another order.
use Rattle.std.proofs.Common.{◌≡◌, ℕ, zero, suc, ◌+◌, ◌<◌, Bool, true, false, cond, not, ◌==◌, ltb, List, [], ◌∷◌, ◌++◌, map, filter, All, sym, ap, ◌∙◌, subst, refl, ⊎_elim, arith}
use Rattle.std.specs.List.{range_with_len, flat_map}
use Rattle.std.specs.List.Sorted.{IsPermutation}
use Rattle.std.proofs.lemmas.Bool.{cond-true, cases_lt, cases_order, lt-ltb, le-ltb, eq-eqb, ne_eqb}
use Rattle.std.proofs.lemmas.List.{append-nil, map-append}
use Rattle.std.proofs.lemmas.List.Concat.{flat_map-append}
use Rattle.std.proofs.lemmas.List.Elements.{All-head, All-tail, All-weaker}
use Rattle.std.proofs.lemmas.List.Sorted.{IsPermutation-refl, IsPermutation-trans, IsPermutation-append, IsPermutation-filter_both}
use Rattle.placement.specs.PlacementLaws.{range_more}

-- a filter of a filter keeps what passes both
filter-filter : {X : Type 0} (p q r : X → Bool) → ((x : X) → cond (q x) (p x) false ≡ r x) → (xs : List X) → filter p (filter q xs) ≡ filter r xs
filter-filter p q r both [] = refl
filter-filter p q r both (x ∷ xs) =
    let rest : filter p (filter q xs) ≡ filter r xs = filter-filter p q r both xs in
    subst (λ b. filter p (filter q (x ∷ xs)) ≡ cond b (x ∷ filter r xs) (filter r xs)) (both x)
    (elim (q x) as (λ b. filter p (cond b (x ∷ filter q xs) (filter q xs)) ≡ cond (cond b (p x) false) (x ∷ filter r xs) (filter r xs)) [
      | true ↦ ap (λ ys. cond (p x) (x ∷ ys) ys) rest
      | false ↦ rest
    ])

filter_all : {X : Type 0} (p : X → Bool) (xs : List X) → All (λ x. p x ≡ true) xs → filter p xs ≡ xs
filter_all p [] all = refl
filter_all p (x ∷ xs) all =
    cond-true (p x) (x ∷ filter p xs) (filter p xs) (All-head (λ y. p y ≡ true) x xs all) ∙ ap (λ ys. x ∷ ys) (filter_all p xs (All-tail (λ y. p y ≡ true) x xs all))

filter_none : {X : Type 0} (p : X → Bool) → ((x : X) → p x ≡ false) → (xs : List X) → filter p xs ≡ []
filter_none p none [] = refl
filter_none p none (x ∷ xs) = rw (none x) (filter_none p none xs)

-- the elements with a key below n
abbrev pub below : {X : Type 0} → (X → ℕ) → ℕ → List X → List X
below key n xs = filter (λ x. ltb (key x) n) xs

-- the elements with each key below n, key after key
abbrev pub by_key : {X : Type 0} → (X → ℕ) → ℕ → List X → List X
by_key key n xs = flat_map (λ p. filter (λ x. key x == p) xs) (range_with_len 0 n)

both_no : (b : Bool) → cond b false false ≡ false
both_no true = refl
both_no false = refl

low : (k n : ℕ) → cond (ltb k (n + 1)) (ltb k n) false ≡ ltb k n
low k n = ⊎_elim
    (λ less. rw (lt-ltb k (n + 1) (omega (arith, less))) refl)
    (λ more. rw (le-ltb k n more) (both_no (ltb k (n + 1))))
    (cases_lt k n)

top_below : (k n : ℕ) → k < n → cond (ltb k (n + 1)) (not (ltb k n)) false ≡ (k == n)
top_below k n less =
    let differ : k ≡ n → ⊥ = λ same. omega (arith, same, less) in
    rw (lt-ltb k n less, ne_eqb k n differ) (both_no (ltb k (n + 1)))

top_above : (k n : ℕ) → n < k → cond (ltb k (n + 1)) (not (ltb k n)) false ≡ (k == n)
top_above k n more =
    let differ : k ≡ n → ⊥ = λ same. omega (arith, same, more) in
    rw (le-ltb k (n + 1) (omega (arith, more)), ne_eqb k n differ) refl

top : (k n : ℕ) → cond (ltb k (n + 1)) (not (ltb k n)) false ≡ (k == n)
top k n = ⊎_elim
    (λ same. rw (lt-ltb k (n + 1) (omega (arith, same)), le-ltb k n (omega (arith, same)), eq-eqb k n same) refl)
    (λ apart. ⊎_elim (top_below k n) (top_above k n) apart)
    (cases_order k n)

split_top : {X : Type 0} (key : X → ℕ) (n : ℕ) (xs : List X) → IsPermutation (below key (n + 1) xs) (below key n xs ++ filter (λ x. key x == n) xs)
split_top {X} key n xs =
    let p : X → Bool = λ x. ltb (key x) n in
    let q : X → Bool = λ x. not (ltb (key x) n) in
    let r : X → Bool = λ x. ltb (key x) (n + 1) in
    let lower : filter p (filter r xs) ≡ filter p xs = filter-filter p r p (λ x. low (key x) n) xs in
    let upper : filter q (filter r xs) ≡ filter (λ x. key x == n) xs = filter-filter q r (λ x. key x == n) (λ x. top (key x) n) xs in
    subst (λ ys. IsPermutation (filter r xs) ys) (ap (λ ys. ys ++ filter q (filter r xs)) lower ∙ ap (λ ys. filter p xs ++ ys) upper)
    (IsPermutation-filter_both p q (λ x. refl) (filter r xs))

pub by_key_more : {X : Type 0} (key : X → ℕ) (n : ℕ) (xs : List X) → by_key key n xs ++ filter (λ x. key x == n) xs ≡ by_key key (n + 1) xs
by_key_more {X} key n xs =
    let f : ℕ → List X = λ p. filter (λ x. key x == p) xs in
    ap (λ ys. flat_map f (range_with_len 0 n) ++ ys) (sym (append-nil (f n))) ∙ sym (flat_map-append f (range_with_len 0 n) (n ∷ [])) ∙ ap (flat_map f) (sym (range_more n))

keyed : {X : Type 0} (key : X → ℕ) (n : ℕ) (xs : List X) → IsPermutation (below key n xs) (by_key key n xs)
keyed {X} key zero xs =
    let none : filter (λ x. ltb (key x) 0) xs ≡ [] = filter_none (λ x. ltb (key x) 0) (λ x. le-ltb (key x) 0 (omega arith)) xs in
    subst (λ ys. IsPermutation ys []) (sym none) (IsPermutation-refl [])
keyed {X} key (suc n) xs =
    let lower : List X = below key n xs in
    let here : List X = filter (λ x. key x == n) xs in
    let grown : IsPermutation (below key (n + 1) xs) (by_key key n xs ++ here) = IsPermutation-trans (below key (n + 1) xs) (lower ++ here) (by_key key n xs ++ here)
    (split_top key n xs) (IsPermutation-append lower (by_key key n xs) here here (keyed key n xs) (IsPermutation-refl here)) in
    subst (λ m. IsPermutation (below key m xs) (by_key key m xs)) (omega arith)
    (subst (λ ys. IsPermutation (below key (n + 1) xs) ys) (by_key_more key n xs) grown)

pub by_key-permutation : {X : Type 0} (key : X → ℕ) (n : ℕ) (xs : List X) → All (λ x. key x < n) xs → IsPermutation xs (by_key key n xs)
by_key-permutation {X} key n xs low =
    let all : filter (λ x. ltb (key x) n) xs ≡ xs = filter_all (λ x. ltb (key x) n) xs (All-weaker (λ x. key x < n) (λ x. ltb (key x) n ≡ true) (λ x under. lt-ltb (key x) n under) xs low) in
    subst (λ ys. IsPermutation ys (by_key key n xs)) all (keyed key n xs)

pub map-flat_map : {P X Y : Type 0} (f : X → Y) (g : P → List X) (ps : List P) → map f (flat_map g ps) ≡ flat_map (λ p. map f (g p)) ps
map-flat_map f g [] = refl
map-flat_map f g (p ∷ ps) = map-append f (g p) (flat_map g ps) ∙ ap (λ ys. map f (g p) ++ ys) (map-flat_map f g ps)

pub flat_map_agree : {P X : Type 0} (g h : P → List X) → ((p : P) → g p ≡ h p) → (ps : List P) → flat_map g ps ≡ flat_map h ps
flat_map_agree g h agree [] = refl
flat_map_agree g h agree (p ∷ ps) = ap (λ ys. ys ++ flat_map g ps) (agree p) ∙ ap (λ ys. h p ++ ys) (flat_map_agree g h agree ps)

pub map_agree : {X Y : Type 0} (f g : X → Y) (xs : List X) → All (λ x. f x ≡ g x) xs → map f xs ≡ map g xs
map_agree f g [] agree = refl
map_agree f g (x ∷ xs) agree =
    ap (λ y. y ∷ map f xs) (All-head (λ y. f y ≡ g y) x xs agree) ∙ ap (λ ys. g x ∷ ys) (map_agree f g xs (All-tail (λ y. f y ≡ g y) x xs agree))
