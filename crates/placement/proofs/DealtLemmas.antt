-- Lists dealt by a key: one more element, and a rank's list.
use Rattle.std.proofs.Common.{◌≡◌, ℕ, ◌+◌, ◌<◌, cond, ◌==◌, List, [], ◌∷◌, ◌++◌, map, filter, length, get_or, set, take, All, sym, ap, ◌∙◌, subst, refl, ⊎_elim}
use Rattle.std.proofs.Math.Nat.{zero-add}
use Rattle.std.proofs.lemmas.Bool.{cond-true, cond-false, cases_eq, eq-eqb, ne_eqb}
use Rattle.std.proofs.lemmas.List.{append-nil, map-append, length-set, get_or-set_same, get_or-set_other, take_more}
use Rattle.std.proofs.lemmas.List.Elements.{All-get_or, filter-append}
use Rattle.std.proofs.lemmas.List.FromFn.{fill_by_all, get_or-map-range_with_len, length-map-range_with_len}
use Rattle.placement.specs.Part.{dealt}

pub length-dealt : {X Y : Type 0} (key : X → ℕ) (f : X → Y) (n : ℕ) (xs : List X) → length (dealt key f n xs) ≡ n
length-dealt key f n xs = length-map-range_with_len (λ k. map f (filter (λ x. key x == k) xs)) 0 n

pub get_or-dealt : {X Y : Type 0} (key : X → ℕ) (f : X → Y) (n : ℕ) (xs : List X) (k : ℕ) (d : List Y) → k < n → get_or (dealt key f n xs) k d ≡ map f (filter (λ x. key x == k) xs)
get_or-dealt key f n xs k d below = get_or-map-range_with_len (λ k. map f (filter (λ x. key x == k) xs)) 0 n k k d below (zero-add k)

-- with one more element
more : {X Y : Type 0} (key : X → ℕ) (f : X → Y) (xs : List X) (x : X) (k : ℕ) → map f (filter (λ y. key y == k) (xs ++ x ∷ [])) ≡ map f (filter (λ y. key y == k) xs) ++ map f (cond (key x == k) (x ∷ []) [])
more key f xs x k =
    ap (map f) (filter-append (λ y. key y == k) xs (x ∷ [])) ∙ map-append f (filter (λ y. key y == k) xs) (cond (key x == k) (x ∷ []) [])

more_here : {X Y : Type 0} (key : X → ℕ) (f : X → Y) (xs : List X) (x : X) (k : ℕ) → key x ≡ k → map f (filter (λ y. key y == k) (xs ++ x ∷ [])) ≡ map f (filter (λ y. key y == k) xs) ++ f x ∷ []
more_here key f xs x k here =
    more key f xs x k ∙ ap (λ ys. map f (filter (λ y. key y == k) xs) ++ map f ys) (cond-true (key x == k) (x ∷ []) [] (eq-eqb (key x) k here))

more_other : {X Y : Type 0} (key : X → ℕ) (f : X → Y) (xs : List X) (x : X) (k : ℕ) → (key x ≡ k → ⊥) → map f (filter (λ y. key y == k) (xs ++ x ∷ [])) ≡ map f (filter (λ y. key y == k) xs)
more_other key f xs x k other =
    more key f xs x k ∙ ap (λ ys. map f (filter (λ y. key y == k) xs) ++ map f ys) (cond-false (key x == k) (x ∷ []) [] (ne_eqb (key x) k other)) ∙ append-nil (map f (filter (λ y. key y == k) xs))

-- it goes to the end of the list of its key
pub dealt_push : {X Y : Type 0} (key : X → ℕ) (f : X → Y) (n : ℕ) (xs : List X) (x : X) → key x < n →
    set (dealt key f n xs) (key x) (get_or (dealt key f n xs) (key x) [] ++ f x ∷ []) ≡ dealt key f n (xs ++ x ∷ [])
dealt_push {X} {Y} key f n xs x below =
    let old : List (List Y) = dealt key f n xs in
    let grown : List Y = get_or old (key x) [] ++ f x ∷ [] in
    let new : ℕ → List Y = λ k. map f (filter (λ y. key y == k) (xs ++ x ∷ [])) in
    fill_by_all new (set old (key x) grown) n [] (length-set old (key x) grown ∙ length-dealt key f n xs)
    (λ k within. ⊎_elim
    (λ here. subst (λ j. get_or (set old (key x) grown) j [] ≡ new j) here
    (get_or-set_same old (key x) grown [] (rw (length-dealt key f n xs) below) ∙ ap (λ ys. ys ++ f x ∷ []) (get_or-dealt key f n xs (key x) [] below) ∙ sym (more_here key f xs x (key x) refl)))
    (λ other. get_or-set_other old (key x) k grown [] (λ e. other (sym e)) ∙ get_or-dealt key f n xs k [] within ∙ sym (more_other key f xs x k other))
    (cases_eq (key x) k))

-- the step of a loop over the list
pub dealt_more : {X Y : Type 0} (key : X → ℕ) (f : X → Y) (n : ℕ) (xs : List X) (i : ℕ) (x : X) (old new : List (List Y)) (at : ℕ) (y : Y) →
    i < length xs → x ≡ get_or xs i x → key x < n → at ≡ key x → y ≡ f x → old ≡ dealt key f n (take i xs) → new ≡ set old at (get_or old at [] ++ y ∷ []) → new ≡ dealt key f n (take (i + 1) xs)
dealt_more {X} {Y} key f n xs i x old new at y inside is below place made so_far step =
    let here : List (List Y) → List (List Y) = λ ls. set ls (key x) (get_or ls (key x) [] ++ f x ∷ []) in
    step ∙ ap (λ a. set old a (get_or old a [] ++ y ∷ [])) place ∙ ap (λ z. set old (key x) (get_or old (key x) [] ++ z ∷ [])) made ∙ ap here so_far ∙ dealt_push key f n (take i xs) x below
    ∙ ap (λ z. dealt key f n (take i xs ++ z ∷ [])) is ∙ ap (dealt key f n) (sym (take_more xs i x inside))

-- what holds of each element holds of the one that a loop reads
pub at_item : {X : Type 0} (P : X → Type 0) (xs : List X) (i : ℕ) (x : X) → i < length xs → x ≡ get_or xs i x → All P xs → P x
at_item P xs i x inside is all = subst P (sym is) (All-get_or P xs i x inside all)
