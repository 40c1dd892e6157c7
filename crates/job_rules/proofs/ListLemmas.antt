-- Lists.
use Rattle.std.proofs.Common.{◌≡◌, ◌∙◌, ℕ, zero, suc, ◌+◌, ◌<◌, Bool, true, false, cond, List, [], ◌∷◌, ◌++◌, map, Some, None, length, length-append, get_or, refl, ap, sym, subst, arith}
use Rattle.std.specs.Prelude.{slice_get}
use Rattle.std.specs.List.{All, enumerate_from, find, flat_map, list_all, list_any}
use Rattle.std.proofs.lemmas.Bool.{and_parts, or_parts}
use Rattle.std.proofs.lemmas.List.{get_or_append_left, get_or-append-add}
use Rattle.std.proofs.lemmas.List.Elements.{All-cons, All-head, All-map, All-nil, All-tail, All-weaker}
use Rattle.std.proofs.lemmas.Option.{get_or_from_slice_get, slice_get_within}

-- where nothing stands, the default is read
pub get_or-none : {X : Type 0} (xs : List X) (n : ℕ) (d : X) → slice_get xs n ≡ None → get_or xs n d ≡ d
get_or-none [] n d none = refl
get_or-none (x ∷ xs) zero d none = absurd cc
get_or-none (x ∷ xs) (suc n) d none = get_or-none xs n d none

All-left : {X : Type 0} (P : X → Type 0) (xs ys : List X) → All P (xs ++ ys) → All P xs
All-left P xs ys all k d within = subst P (get_or_append_left xs ys d k within) (all k d (omega (arith, length-append xs ys)))

All-right : {X : Type 0} (P : X → Type 0) (xs ys : List X) → All P (xs ++ ys) → All P ys
All-right P xs ys all k d within = subst P (get_or-append-add xs ys k d) (all (length xs + k) d (omega (arith, length-append xs ys)))

-- what holds of all pieces holds of one
pub all_piece : {X Y : Type 0} (P : Y → Type 0) (f : X → List Y) (xs : List X) (k : ℕ) (d : X) → k < length xs → All P (flat_map f xs) → All P (f (get_or xs k d))
all_piece P f [] k d within all = absurd (omega (arith, within))
all_piece P f (x ∷ xs) zero d within all = All-left P (f x) (flat_map f xs) all
all_piece P f (x ∷ xs) (suc k) d within all = all_piece P f xs k d (omega (arith, within)) (All-right P (f x) (flat_map f xs) all)

-- and of the one that a loop has reached
pub all_at : {X Y : Type 0} (P : Y → Type 0) (f : X → List Y) (xs ys : List X) (k : ℕ) (x : X) → x ≡ get_or ys k x → ys ≡ xs → k < length ys → All P (flat_map f xs) → All P (f x)
all_at P f xs ys k x is same within all =
    let here = is ∙ ap (λ l. get_or l k x) same in
    subst (λ y. All P (f y)) (sym here) (all_piece P f xs k x (omega (arith, ap length same)) all)

-- where no element passes a test, each has what its failing tells
pub none_all : {X : Type 0} (test : X → Bool) (P : X → Type 0) → ((x : X) → test x ≡ false → P x) → (xs : List X) → list_any test xs ≡ false → All P xs
none_all test P tells [] none = λ k d within. absurd (omega (arith, within))
none_all test P tells (x ∷ xs) none =
    let both = or_parts (test x) (list_any test xs) none in
    All-cons P x xs (tells x both.0) (none_all test P tells xs both.1)

-- and the same where they are made from others
pub none_mapped : {X Y : Type 0} (test : Y → Bool) (f : X → Y) (xs : List X) → list_any test (map f xs) ≡ false → All (λ x. test (f x) ≡ false) xs
none_mapped test f [] none = All-nil (λ x. test (f x) ≡ false)
none_mapped test f (x ∷ xs) none =
    let both = or_parts (test (f x)) (list_any test (map f xs)) none in
    All-cons (λ y. test (f y) ≡ false) x xs both.0 (none_mapped test f xs both.1)

-- what holds of the things holds of what is made from them
pub all_made : {X Y : Type 0} (P : X → Type 0) (Q : Y → Type 0) (f : X → Y) (xs : List X) → ((x : X) → P x → Q (f x)) → All P xs → All Q (map f xs)
all_made P Q f xs turn all = All-map Q f xs (All-weaker P (λ x. Q (f x)) turn xs all)

-- what holds of the things and of all their pieces together
pub each_made : {X Y Z : Type 0} (f : X → List Y) (g : X → Z) (P : X → Type 0) (Q : Y → Type 0) (R : Z → Type 0) → ((x : X) → P x → All Q (f x) → R (g x)) → (xs : List X) → All P xs → All Q (flat_map f xs) → All R (map g xs)
each_made f g P Q R turn [] all pieces = All-nil R
each_made f g P Q R turn (x ∷ xs) all pieces =
    All-cons R (g x) (map g xs) (turn x (All-head P x xs all) (All-left Q (f x) (flat_map f xs) pieces)) (each_made f g P Q R turn xs (All-tail P x xs all) (All-right Q (f x) (flat_map f xs) pieces))

-- what stands in a list stays in its place when more is appended
pub get-front : {X : Type 0} (xs ys : List X) (k : ℕ) (x : X) → slice_get xs k ≡ Some x → slice_get (xs ++ ys) k ≡ Some x
get-front [] ys k x there = absurd cc
get-front (y ∷ xs) ys zero x there = there
get-front (y ∷ xs) ys (suc k) x there = get-front xs ys k x there

pub get-last : {X : Type 0} (xs : List X) (x : X) → slice_get (xs ++ x ∷ []) (length xs) ≡ Some x
get-last [] x = refl
get-last (y ∷ xs) x = get-last xs x

-- what holds of all holds of the one in a place
pub all_of : {X : Type 0} (P : X → Type 0) (xs : List X) (n : ℕ) (x : X) → All P xs → slice_get xs n ≡ Some x → P x
all_of P xs n x all there = subst P (get_or_from_slice_get xs n x x there) (all n x (slice_get_within xs n x there))

-- where none is found, none passes
pub find-none : {X : Type 0} (test : X → Bool) (xs : List X) (k : ℕ) (d : X) → find test xs ≡ None → k < length xs → test (get_or xs k d) ≡ false
find-none test [] k d none within = absurd (omega (arith, within))
find-none test (x ∷ xs) k d none within = by (test x) refl k within (λ j rest. find-none test xs j d rest)
  where
    by : (b : Bool) → test x ≡ b → (j : ℕ) → j < suc (length xs) → ((i : ℕ) → find test xs ≡ None → i < length xs → test (get_or xs i d) ≡ false) → test (get_or (x ∷ xs) j d) ≡ false
    by true e j below more = absurd (let p : Some x ≡ None = sym (ap (λ b. cond b (Some x) (find test xs)) e) ∙ none in cc)
    by false e zero below more = e
    by false e (suc j) below more = more j (sym (ap (λ b. cond b (Some x) (find test xs)) e) ∙ none) (omega (arith, below))

-- a test of places that all pass, each passes
pub place_passes : {X : Type 0} (test : ℕ → Bool) (n : ℕ) (xs : List X) (k m : ℕ) → list_all (λ entry. test entry.0) (enumerate_from n xs) ≡ true → k < length xs → m ≡ n + k → test m ≡ true
place_passes test n [] k m all within is = absurd (omega (arith, within))
place_passes test n (x ∷ xs) zero m all within is =
    let both = and_parts (test n) (list_all (λ entry. test entry.0) (enumerate_from (n + 1) xs)) all in
    let same : n ≡ m = omega arith in
    subst (λ k. test k ≡ true) same both.0
place_passes test n (x ∷ xs) (suc k) m all within is =
    let both = and_parts (test n) (list_all (λ entry. test entry.0) (enumerate_from (n + 1) xs)) all in
    place_passes test (n + 1) xs k m both.1 (omega (arith, within)) (omega (arith, is))
