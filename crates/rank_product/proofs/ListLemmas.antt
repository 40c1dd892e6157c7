-- What lists and their images have at a place.
use Rattle.std.proofs.Common.{◌≡◌, ℕ, zero, suc, ◌<◌, ◌≤◌, List, [], ◌∷◌, Some, map, length, get_or, slice_get, refl, sym, ap, ◌∙◌, subst, arith}
use Rattle.std.specs.List.{All}
use Rattle.std.proofs.lemmas.List.{get_or-map, length-map}
use Rattle.std.proofs.lemmas.Option.{slice_get_within, get_or_from_slice_get}
use Rattle.rank_node.proofs.ListLemmas.{some_same}

-- what holds of each element holds of the one at a place
pub all_at : {A : Type 0} (P : A → Type 0) (xs : List A) (k : ℕ) (x : A) → All P xs → slice_get xs k ≡ Some x → P x
all_at P xs k x all at = subst P (get_or_from_slice_get xs k x x at) (all k x (slice_get_within xs k x at))

-- an element of an image comes from the one at its place
pub record ComesFrom {A B : Type 0} (f : A → B) (xs : List A) (k : ℕ) (y : B) : Type 0 where
  pub of : A
  pub there : slice_get xs k ≡ Some of
  pub is : y ≡ f of

pub map_at : {A B : Type 0} (f : A → B) (xs : List A) (k : ℕ) (y : B) → slice_get (map f xs) k ≡ Some y → ComesFrom f xs k y
map_at f [] k y at = absurd (cc)
map_at f (x ∷ xs) zero y at = record { of = x; there = refl; is = sym (some_same at) }
map_at f (x ∷ xs) (suc k) y at =
    let rest = map_at f xs k y at in record { of = rest.of; there = rest.there; is = rest.is }

-- a list of one element, and one of two
pub record IsOne {A : Type 0} (xs : List A) : Type 0 where
  pub first : A
  pub is : xs ≡ first ∷ []

pub record AreTwo {A : Type 0} (xs : List A) : Type 0 where
  pub first : A
  pub second : A
  pub are : xs ≡ first ∷ second ∷ []

pub one_of : {A : Type 0} (xs : List A) → length xs ≡ 1 → IsOne xs
one_of [] long = absurd (omega (arith, long))
one_of (x ∷ []) long = record { first = x; is = refl }
one_of (x ∷ y ∷ ys) long = absurd (let more : 2 ≤ length (x ∷ y ∷ ys) = omega arith in omega (arith, more, long))

pub two_of : {A : Type 0} (xs : List A) → length xs ≡ 2 → AreTwo xs
two_of [] long = absurd (omega (arith, long))
two_of (x ∷ []) long = absurd (omega (arith, long))
two_of (x ∷ y ∷ []) long = record { first = x; second = y; are = refl }
two_of (x ∷ y ∷ z ∷ zs) long = absurd (let more : 3 ≤ length (x ∷ y ∷ z ∷ zs) = omega arith in omega (arith, more, long))

-- two images are one where they agree at each place, and then alone
pub maps_same : {A B C : Type 0} (f : A → C) (g : B → C) (xs : List A) (ys : List B) → length xs ≡ length ys → ((k : ℕ) (d : A) (e : B) → k < length xs → f (get_or xs k d) ≡ g (get_or ys k e)) → map f xs ≡ map g ys
maps_same f g [] [] long each = refl
maps_same f g [] (y ∷ ys) long each = absurd (omega (arith, long))
maps_same f g (x ∷ xs) [] long each = absurd (omega (arith, long))
maps_same f g (x ∷ xs) (y ∷ ys) long each =
    ap (λ z. z ∷ map f xs) (each 0 x y (omega arith))
    ∙ ap (λ zs. g y ∷ zs) (maps_same f g xs ys (omega (arith, long)) (λ k d e within. each (suc k) d e (omega (arith, within))))

pub maps_at : {A B C : Type 0} (f : A → C) (g : B → C) (xs : List A) (ys : List B) → map f xs ≡ map g ys → (k : ℕ) (d : A) (e : B) → k < length xs → f (get_or xs k d) ≡ g (get_or ys k e)
maps_at f g xs ys same k d e within =
    let long : length xs ≡ length ys = sym (length-map xs f) ∙ ap length same ∙ length-map ys g in
    sym (get_or-map f xs k d (f d) within) ∙ ap (λ zs. get_or zs k (f d)) same ∙ get_or-map g ys k e (f d) (subst (λ n. k < n) long within)
