-- Lists and what is made of them, and the variables that are free.
use Rattle.std.proofs.Common.{◌≡◌, ◌∙◌, ℕ, zero, suc, ◌==◌, Bool, true, false, not, ◌&&◌, ◌||◌, cond, List, [], ◌∷◌, ◌++◌, map, refl, sym, ap, subst, lit<, arith}
use Rattle.std.specs.Prelude.{nat_lt}
use Rattle.std.specs.List.{Contains, filter, flat_map}
use Rattle.std.proofs.lemmas.Bool.{eqb-true, ltb-true}
use Rattle.std.proofs.lemmas.List.{get_or-map, length-map}
use Rattle.std.proofs.lemmas.List.Elements.{All-contains, All-contains_itself, All-filter, Contains-append_left, Contains-append_right, filter_passes}
use Rattle.std.proofs.lemmas.List.Folds.{list_any-append}
use Rattle.bern_base.specs.Affine.{AffineForm}
use Rattle.bern_base.specs.declared.axes.Axis.{Axis}
use Rattle.bern_base.specs.declared.axes.Axis.TheVariants as axis
use Rattle.term_model.specs.Plans.{SparseRef, is_in, is_free, is_only, four, waiting, has_factor, waits_for}

-- what a list has a list that is made of it has
pub contains_map : {X Y : Type 0} (f : X → Y) (xs : List X) (x : X) → Contains xs x → Contains (map f xs) (f x)
contains_map f xs x (k, below, is) = (k, omega (arith, length-map xs f), get_or-map f xs k x (f x) below ∙ ap f is)

pub contains_flat_map : {X Y : Type 0} (f : X → List Y) (xs : List X) (x : X) (y : Y) → Contains xs x → Contains (f x) y → Contains (flat_map f xs) y
contains_flat_map f [] x y (k, below, is) in_f = absurd (omega (arith, below))
contains_flat_map f (z ∷ xs) x y (zero, below, is) in_f = Contains-append_left (f z) (flat_map f xs) y (subst (λ w. Contains (f w) y) (sym is) in_f)
contains_flat_map f (z ∷ xs) x y (suc k, below, is) in_f = Contains-append_right (f z) (flat_map f xs) y (contains_flat_map f xs x y (k, omega (arith, below), is) in_f)

pub contains_filter : {X : Type 0} (p : X → Bool) (xs : List X) (x : X) → Contains xs x → p x ≡ true → Contains (filter p xs) x
contains_filter p [] x (k, below, is) pass = absurd (omega (arith, below))
contains_filter p (y ∷ xs) x (zero, below, is) pass =
    subst (λ b. Contains (cond b (y ∷ filter p xs) (filter p xs)) x) (sym (ap p is ∙ pass)) (0, omega arith, is)
contains_filter p (y ∷ xs) x (suc k, below, is) pass = kept (p y) (contains_filter p xs x (k, omega (arith, below), is) pass)
  where
    kept : (b : Bool) → Contains (filter p xs) x → Contains (cond b (y ∷ filter p xs) (filter p xs)) x
    kept true (j, under, same) = (suc j, omega (arith, under), same)
    kept false within = within

-- what passes a filter stands in the list
pub filtered_in : {X : Type 0} (p : X → Bool) (xs : List X) (x : X) → Contains (filter p xs) x → Contains xs x
filtered_in p xs x within = All-contains (Contains xs) (filter p xs) x (All-filter p (Contains xs) xs (All-contains_itself xs)) within

pub filtered_passes : {X : Type 0} (p : X → Bool) (xs : List X) (x : X) → Contains (filter p xs) x → p x ≡ true
filtered_passes p xs x within = All-contains (λ y. p y ≡ true) (filter p xs) x (filter_passes p xs) within

-- the four variables
pub is_four : (v : ℕ) → nat_lt v 4 ≡ true → Contains four v
is_four zero below = (0, lit< tt, refl)
is_four (suc zero) below = (1, lit< tt, refl)
is_four (suc (suc zero)) below = (2, lit< tt, refl)
is_four (suc (suc (suc zero))) below = (3, lit< tt, refl)
is_four (suc (suc (suc (suc v)))) below = absurd (omega (arith, ltb-true (suc (suc (suc (suc v)))) 4 below))

pub both_true : (a b : Bool) → (a && b) ≡ true → (a ≡ true) × (b ≡ true)
both_true true b is = (refl, is)
both_true false b is = absurd cc

pub not_true : (b : Bool) → not b ≡ true → b ≡ false
not_true true is = absurd cc
not_true false is = refl

pub free_four : (bound : List ℕ) (v : ℕ) → is_free bound v ≡ true → Contains four v
free_four bound v is = is_four v (both_true (nat_lt v 4) (not (is_in v bound)) is).0

pub only_is : (v : ℕ) (xs : List ℕ) → is_only v xs ≡ true → xs ≡ v ∷ []
only_is v [] is = absurd cc
only_is v (w ∷ []) is = ap (λ x. x ∷ []) (eqb-true w v is)
only_is v (w ∷ x ∷ ws) is = absurd cc

-- a subscript waits for variables that are free
pub waits_free : (bound : List ℕ) (form : AffineForm) (v : ℕ) → Contains (waiting bound form) v → is_free bound v ≡ true
waits_free bound form v within = (both_true (is_free bound v) (has_factor form v) (filtered_passes (λ w. is_free bound w && has_factor form w) four v within)).0

pub only_free : (bound : List ℕ) (form : AffineForm) (v : ℕ) → is_only v (waiting bound form) ≡ true → is_free bound v ≡ true
only_free bound form v is = waits_free bound form v (subst (λ xs. Contains xs v) (sym (only_is v (waiting bound form) is)) (0, omega arith, refl))

pub drive_free : (bound : List ℕ) (a : Axis) (s : SparseRef) (v : ℕ) → waits_for bound a s v ≡ true → is_free bound v ≡ true
drive_free bound axis.Row s v is = only_free bound s.row v is
drive_free bound axis.Col s v is = only_free bound s.col v is
drive_free bound axis.Both s v is = absurd cc

-- what is free where more is bound is free
pub free_before : (more bound : List ℕ) (v : ℕ) → is_free (more ++ bound) v ≡ true → is_free bound v ≡ true
free_before more bound v is = by_tests (nat_lt v 4) (is_in v more) (is_in v bound) (ap (λ b. nat_lt v 4 && not b) (sym (list_any-append (λ w. w == v) more bound)) ∙ is)
  where
    by_tests : (l m b : Bool) → (l && not (m || b)) ≡ true → (l && not b) ≡ true
    by_tests true true b is = absurd cc
    by_tests true false b is = is
    by_tests false m b is = absurd cc
