-- The owner of an index by a place of a list.
use Rattle.std.proofs.Common.{◌≡◌, ℕ, zero, suc, ◌<◌, ◌≤◌, Bool, true, false, cond, List, [], ◌∷◌, map, length, Some, None, ℤ, pos, refl, ap, subst, ⊎_elim, arith}
use Rattle.std.specs.Prelude.{◌==◌, int_lt, slice_get, slice_index_or}
use Rattle.std.specs.List.{All, filter}
use Rattle.std.proofs.lemmas.Bool.{cases_lt, eqb-true}
use Rattle.std.proofs.lemmas.Int.{ints}
use Rattle.bern_base.specs.Affine.{value_at}
use Rattle.job_model.specs.Points.{holds}
use Rattle.term_model.specs.Plans.{no_form}
use Rattle.plan_schedule.specs.Arranged.{no_guard}
use Rattle.std.proofs.lemmas.List.{get_or_past}
use Rattle.std.proofs.lemmas.List.Elements.{All-head, All-tail}
use Rattle.placement.specs.Placement.{Triple, at_rank, no_triple, owned_of, owner_of}

pub no_item : {X Y : Type 0} (f : X → Y) (xs : List X) (n : ℕ) (y : Y) → slice_get xs n ≡ None → slice_index_or (map f xs) n y ≡ y
no_item f [] n y none = refl
no_item f (x ∷ xs) zero y none = absurd cc
no_item f (x ∷ xs) (suc n) y none = no_item f xs n y none

pub item : {X Y : Type 0} (f : X → Y) (xs : List X) (n : ℕ) (x : X) (y : Y) → slice_get xs n ≡ Some x → slice_index_or (map f xs) n y ≡ f x
item f [] n x y some = absurd cc
item f (z ∷ xs) zero x y some = let same : z ≡ x = cc in ap f same
item f (z ∷ xs) (suc n) x y some = item f xs n x y some

pub owner_past : (ts : List Triple) (i : ℕ) → length ts ≤ i → owner_of ts i ≡ 0
unfolding owner_of
owner_past ts i past = ap (λ (t : Triple). t.rank) (get_or_past ts i no_triple past)

pub item_none : {X : Type 0} (xs : List X) (n : ℕ) (x : X) → slice_get xs n ≡ None → slice_index_or xs n x ≡ x
item_none [] n x none = refl
item_none (y ∷ xs) zero x none = absurd cc
item_none (y ∷ xs) (suc n) x none = item_none xs n x none

-- what stands for a guard that is not there does not hold
pub no_guard_holds : (p : List ℤ) → holds p no_guard ≡ false
no_guard_holds p = ap (λ z. int_lt z (pos 0)) (let value : value_at no_form p ≡ pos 0 = omega (arith, ints) in value)

-- ---- who owns all

few_kept : {X : Type 0} (p : X → Bool) (xs : List X) → length (filter p xs) ≤ length xs
few_kept p [] = omega arith
few_kept p (x ∷ xs) = by (p x) (few_kept p xs)
  where
    by : (b : Bool) → length (filter p xs) ≤ length xs → length (cond b (x ∷ filter p xs) (filter p xs)) ≤ suc (length xs)
    by true rest = omega (arith, rest)
    by false rest = omega (arith, rest)

-- where all pass, each does
all_kept : (p : ℕ) (ts : List Triple) → length (at_rank p ts) ≡ length ts → (i : ℕ) → i < length ts → (slice_index_or ts i no_triple).rank ≡ p
all_kept p [] all i low = absurd (omega (arith, low))
all_kept p (t ∷ ts) all i low = by (t.rank == p) refl (all_kept p ts) all i low
  where
    by : (b : Bool) → (t.rank == p) ≡ b → (length (at_rank p ts) ≡ length ts → (i : ℕ) → i < length ts → (slice_index_or ts i no_triple).rank ≡ p) →
        length (cond b (t ∷ at_rank p ts) (at_rank p ts)) ≡ suc (length ts) → (i : ℕ) → i < suc (length ts) → (slice_index_or (t ∷ ts) i no_triple).rank ≡ p
    by true is rest all zero low = eqb-true t.rank p is
    by true is rest all (suc i) low = rest (omega (arith, all)) i (omega (arith, low))
    by false is rest all i low = absurd (omega (arith, all, few_kept (λ (t : Triple). t.rank == p) ts))

pub all_owned : (ts : List Triple) → owned_of ts 0 ≡ length ts → (i : ℕ) → owner_of ts i ≡ 0
unfolding owner_of owned_of
all_owned ts all i =
    ⊎_elim (λ (low : i < length ts). all_kept 0 ts all i low) (λ (past : length ts ≤ i). ap (λ (t : Triple). t.rank) (get_or_past ts i no_triple past)) (cases_lt i (length ts))

pub each_item : {X Y : Type 0} (f : X → Y) (P : Y → Type 0) (xs : List X) (n : ℕ) (x : X) → All P (map f xs) → slice_get xs n ≡ Some x → P (f x)
each_item f P [] n x all some = absurd cc
each_item f P (y ∷ xs) zero x all some = let same : y ≡ x = cc in subst (λ z. P (f z)) same (All-head P (f y) (map f xs) all)
each_item f P (y ∷ xs) (suc n) x all some = each_item f P xs n x (All-tail P (f y) (map f xs) all) some
