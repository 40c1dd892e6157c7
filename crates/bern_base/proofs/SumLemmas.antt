-- Sums over a list: of sums, of products, of remainders, and over a list that is made of others.
use Rattle.std.proofs.Common.{◌≡◌, ℕ, zero, suc, ◌+◌, ◌*◌, ◌%◌, ◌<◌, ◌≤◌, List, [], ◌∷◌, map, get_or, All, refl, sym, ap, ◌∙◌, subst, ⊎_elim, arith}
use Rattle.std.proofs.Math.Nat.{add-zero, zero-add, zero-mul, add-mul, add-mod-mod, mod-add-mod}
use Rattle.std.specs.List.{sum_by, flat_map, range_with_len}
use Rattle.std.proofs.lemmas.Bool.{cases_eq}
use Rattle.std.proofs.lemmas.List.Elements.{All-head, All-tail}
use Rattle.std.proofs.lemmas.List.Folds.{fold-map}
use Rattle.std.proofs.lemmas.List.FromFn.{length-range_with_len, get_or-range_with_len}
use Rattle.std.proofs.lemmas.List.Sums.{sum_by-cons, sum_by-append}

pub sum_by-map : {X Y : Type 0} (g : Y → ℕ) (f : X → Y) (xs : List X) → sum_by g (map f xs) ≡ sum_by (λ x. g (f x)) xs
sum_by-map g f xs = fold-map (λ s y. s + g y) f 0 xs

pub sum_by-flat_map : {X Y : Type 0} (g : Y → ℕ) (f : X → List Y) (xs : List X) → sum_by g (flat_map f xs) ≡ sum_by (λ x. sum_by g (f x)) xs
sum_by-flat_map g f [] = refl
sum_by-flat_map g f (x ∷ xs) =
    sum_by-append g (f x) (flat_map f xs) ∙ ap (λ s. sum_by g (f x) + s) (sum_by-flat_map g f xs) ∙ sym (sum_by-cons (λ y. sum_by g (f y)) x xs)

-- the terms agree at each element
pub sum_by_agree : {X : Type 0} (f g : X → ℕ) (xs : List X) → All (λ x. f x ≡ g x) xs → sum_by f xs ≡ sum_by g xs
sum_by_agree f g [] agree = refl
sum_by_agree f g (x ∷ xs) agree =
    let here : f x ≡ g x = All-head (λ y. f y ≡ g y) x xs agree in
    let rest : sum_by f xs ≡ sum_by g xs = sum_by_agree f g xs (All-tail (λ y. f y ≡ g y) x xs agree) in
    rw (sum_by-cons f x xs, sum_by-cons g x xs, here, rest) refl

add_agree-mod : (a b c d m : ℕ) → a % m ≡ b % m → c % m ≡ d % m → (a + c) % m ≡ (b + d) % m
add_agree-mod a b c d m first second =
    sym (mod-add-mod a m c) ∙ sym (add-mod-mod (a % m) c m) ∙ ap (λ r. (r + c % m) % m) first ∙ ap (λ r. (b % m + r) % m) second ∙ add-mod-mod (b % m) d m ∙ mod-add-mod b m d

-- the terms agree modulo m at each element
pub sum_by_agree-mod : {X : Type 0} (m : ℕ) (f g : X → ℕ) (xs : List X) → All (λ x. f x % m ≡ g x % m) xs → sum_by f xs % m ≡ sum_by g xs % m
sum_by_agree-mod m f g [] agree = refl
sum_by_agree-mod m f g (x ∷ xs) agree =
    let here : f x % m ≡ g x % m = All-head (λ y. f y % m ≡ g y % m) x xs agree in
    let rest : sum_by f xs % m ≡ sum_by g xs % m = sum_by_agree-mod m f g xs (All-tail (λ y. f y % m ≡ g y % m) x xs agree) in
    ap (λ s. s % m) (sum_by-cons f x xs) ∙ add_agree-mod (f x) (g x) (sum_by f xs) (sum_by g xs) m here rest ∙ ap (λ s. s % m) (sym (sum_by-cons g x xs))

pub sum_by-add : {X : Type 0} (f g : X → ℕ) (xs : List X) → sum_by (λ x. f x + g x) xs ≡ sum_by f xs + sum_by g xs
sum_by-add f g [] = refl
sum_by-add f g (x ∷ xs) =
    rw (sum_by-cons (λ y. f y + g y) x xs, sum_by-cons f x xs, sum_by-cons g x xs, sum_by-add f g xs) (omega arith)

pub sum_by-mul : {X : Type 0} (f : X → ℕ) (c : ℕ) (xs : List X) → sum_by (λ x. f x * c) xs ≡ sum_by f xs * c
sum_by-mul f c [] = sym (zero-mul c)
sum_by-mul f c (x ∷ xs) =
    rw (sum_by-cons (λ y. f y * c) x xs, sum_by-cons f x xs, sum_by-mul f c xs, add-mul (f x) (sum_by f xs) c) refl

pub sum_by_none : {X : Type 0} (f : X → ℕ) (xs : List X) → All (λ x. f x ≡ 0) xs → sum_by f xs ≡ 0
sum_by_none f [] none = refl
sum_by_none f (x ∷ xs) none =
    rw (sum_by-cons f x xs, All-head (λ y. f y ≡ 0) x xs none, sum_by_none f xs (All-tail (λ y. f y ≡ 0) x xs none)) refl

-- two sums, one within the other, change places
pub sum_by-swap : {X Y : Type 0} (f : X → Y → ℕ) (xs : List X) (ys : List Y) → sum_by (λ x. sum_by (f x) ys) xs ≡ sum_by (λ y. sum_by (λ x. f x y) xs) ys
sum_by-swap f [] ys = sym (sum_by_none (λ y. 0) ys (λ k d within. refl))
sum_by-swap f (x ∷ xs) ys =
    sum_by-cons (λ z. sum_by (f z) ys) x xs
    ∙ ap (λ s. sum_by (f x) ys + s) (sum_by-swap f xs ys)
    ∙ sym (sum_by-add (f x) (λ y. sum_by (λ z. f z y) xs) ys)
    ∙ sum_by_agree (λ y. f x y + sum_by (λ z. f z y) xs) (λ y. sum_by (λ z. f z y) (x ∷ xs)) ys (λ k d within. sym (sum_by-cons (λ z. f z (get_or ys k d)) x xs))

-- what holds of the numbers from a to a + n holds of each in their list
range_each : (P : ℕ → Type 0) (a n : ℕ) → ((j : ℕ) → a ≤ j → j < a + n → P j) → All P (range_with_len a n)
range_each P a n each k d within =
    let below : k < n = subst (λ m. k < m) (length-range_with_len a n) within in
    subst P (sym (get_or-range_with_len a n k d below)) (each (a + k) (omega arith) (omega (arith, below)))

pub All-range : (P : ℕ → Type 0) (n : ℕ) → ((j : ℕ) → j < n → P j) → All P (range_with_len 0 n)
All-range P n each = range_each P 0 n (λ j low below. each j (omega (arith, below)))

none_from : (f : ℕ → ℕ) (a n : ℕ) → ((j : ℕ) → a ≤ j → j < a + n → f j ≡ 0) → sum_by f (range_with_len a n) ≡ 0
none_from f a n none = sum_by_none f (range_with_len a n) (range_each (λ j. f j ≡ 0) a n none)

one_from : (f : ℕ → ℕ) (a n c : ℕ) → a ≤ c → c < a + n → ((j : ℕ) → a ≤ j → j < a + n → (j ≡ c → ⊥) → f j ≡ 0) → sum_by f (range_with_len a n) ≡ f c
one_from f a zero c low below others = absurd (omega (arith, low, below))
one_from f a (suc n) c low below others =
    let rest : ℕ = sum_by f (range_with_len (a + 1) n) in
    let later : a ≡ c → rest ≡ 0 = λ same. none_from f (a + 1) n (λ j above under. others j (omega (arith, above)) (omega (arith, under)) (λ is. omega (arith, is, same, above))) in
    let others_later : (j : ℕ) → a + 1 ≤ j → j < a + 1 + n → (j ≡ c → ⊥) → f j ≡ 0 = λ j above under apart. others j (omega (arith, above)) (omega (arith, under)) apart in
    let sooner : (a ≡ c → ⊥) → rest ≡ f c = λ apart. one_from f (a + 1) n c (omega (arith, low, apart)) (omega (arith, below)) others_later in
    let first : (a ≡ c → ⊥) → f a ≡ 0 = others a (omega arith) (omega (arith, below)) in
    sum_by-cons f a (range_with_len (a + 1) n) ∙ ⊎_elim
    (λ same. ap (λ s. f a + s) (later same) ∙ add-zero (f a) ∙ ap f same)
    (λ apart. ap (λ t. t + rest) (first apart) ∙ zero-add rest ∙ sooner apart)
    (cases_eq a c)

-- a sum over a range in which one term alone can differ from 0
pub sum_by_one : (f : ℕ → ℕ) (n c : ℕ) → c < n → ((j : ℕ) → j < n → (j ≡ c → ⊥) → f j ≡ 0) → sum_by f (range_with_len 0 n) ≡ f c
sum_by_one f n c below others = one_from f 0 n c (omega arith) (omega (arith, below)) (λ j low under differ. others j (omega (arith, under)) differ)
