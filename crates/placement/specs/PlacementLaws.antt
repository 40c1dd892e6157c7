-- The laws of a placement, from what a placement is.
use Rattle.std.proofs.Common.{◌≡◌, ℕ, zero, suc, ◌+◌, ◌<◌, Bool, true, false, cond, ◌==◌, List, [], ◌∷◌, ◌++◌, filter, length, get_or, AllPairs, sym, ap, ◌∙◌, subst, refl, arith}
use Rattle.std.proofs.Math.Nat.{zero-add}
use Rattle.std.specs.List.{range_with_len}
use Rattle.std.proofs.lemmas.Bool.{cond-true, eqb-true, eq-eqb}
use Rattle.std.proofs.lemmas.List.{get_or-map, map-id}
use Rattle.std.proofs.lemmas.List.Elements.{filter_passes}
use Rattle.std.proofs.lemmas.List.FromFn.{get_or-range_with_len, map-range_with_len_more}
use Rattle.std.proofs.lemmas.List.Kept.{AllPairs-filter}
use Rattle.placement.specs.Placement.{Triple, IsPlacement, at_rank, no_triple, owner_of, local_of, owned_indices, owned_of, global_of}

-- one number further
pub range_more : (n : ℕ) → range_with_len 0 (n + 1) ≡ range_with_len 0 n ++ n ∷ []
range_more n = sym (map-id (range_with_len 0 (n + 1))) ∙ map-range_with_len_more (λ x. x) 0 n n (zero-add n) ∙ ap (λ xs. xs ++ n ∷ []) (map-id (range_with_len 0 n))

-- what passes stands among what passes
kept_behind : {X : Type 0} (p : X → Bool) (x : X) (xs : List X) (y d : X) → (l : ℕ) × (l < length (filter p xs)) × (get_or (filter p xs) l d ≡ y) →
    (l : ℕ) × (l < length (filter p (x ∷ xs))) × (get_or (filter p (x ∷ xs)) l d ≡ y)
kept_behind p x xs y d (l, below, is) =
    elim (p x) as (λ b. (j : ℕ) × (j < length (cond b (x ∷ filter p xs) (filter p xs))) × (get_or (cond b (x ∷ filter p xs) (filter p xs)) j d ≡ y)) [
      | true ↦ (suc l, omega (arith, below), is)
      | false ↦ (l, below, is)
    ]

pub kept : {X : Type 0} (p : X → Bool) (xs : List X) (k : ℕ) (d : X) → k < length xs → p (get_or xs k d) ≡ true → (l : ℕ) × (l < length (filter p xs)) × (get_or (filter p xs) l d ≡ get_or xs k d)
kept p [] k d below pass = absurd (omega (arith, below))
kept p (x ∷ xs) zero d below pass = rw (cond-true (p x) (x ∷ filter p xs) (filter p xs) pass) (0, omega arith, refl)
kept p (x ∷ xs) (suc k) d below pass = kept_behind p x xs (get_or xs k d) d (kept p xs k d (omega (arith, below)) pass)

-- and what stands there stood in the list
found_later : {X : Type 0} (x : X) (xs : List X) (y d : X) → (k : ℕ) × (k < length xs) × (get_or xs k d ≡ y) → (k : ℕ) × (k < length (x ∷ xs)) × (get_or (x ∷ xs) k d ≡ y)
found_later x xs y d (k, below, is) = (suc k, omega (arith, below), is)

found_first : {X : Type 0} (x : X) (xs ys : List X) (l : ℕ) (d : X) → ((j : ℕ) → j < length ys → (k : ℕ) × (k < length xs) × (get_or xs k d ≡ get_or ys j d)) →
    l < length (x ∷ ys) → (k : ℕ) × (k < length (x ∷ xs)) × (get_or (x ∷ xs) k d ≡ get_or (x ∷ ys) l d)
found_first x xs ys zero d rest below = (0, omega arith, refl)
found_first x xs ys (suc l) d rest below = found_later x xs (get_or ys l d) d (rest l (omega (arith, below)))

found_behind : {X : Type 0} (p : X → Bool) (x : X) (xs : List X) (l : ℕ) (d : X) → ((j : ℕ) → j < length (filter p xs) → (k : ℕ) × (k < length xs) × (get_or xs k d ≡ get_or (filter p xs) j d)) →
    l < length (filter p (x ∷ xs)) → (k : ℕ) × (k < length (x ∷ xs)) × (get_or (x ∷ xs) k d ≡ get_or (filter p (x ∷ xs)) l d)
found_behind p x xs l d rest =
    elim (p x) as (λ b. l < length (cond b (x ∷ filter p xs) (filter p xs)) → (k : ℕ) × (k < length (x ∷ xs)) × (get_or (x ∷ xs) k d ≡ get_or (cond b (x ∷ filter p xs) (filter p xs)) l d)) [
      | true ↦ (λ below. found_first x xs (filter p xs) l d rest below)
      | false ↦ (λ below. found_later x xs (get_or (filter p xs) l d) d (rest l below))
    ]

found : {X : Type 0} (p : X → Bool) (xs : List X) (l : ℕ) (d : X) → l < length (filter p xs) → (k : ℕ) × (k < length xs) × (get_or xs k d ≡ get_or (filter p xs) l d)
found p [] l d below = absurd (omega (arith, below))
found p (x ∷ xs) l d below = found_behind p x xs l d (λ j within. found p xs j d within) below

-- the triple at a place has that index
index_at : (ranks : ℕ) (ts : List Triple) → IsPlacement ranks ts → (k : ℕ) (d : Triple) → k < length ts → (get_or ts k d).index ≡ k
index_at ranks ts is k d below =
    sym (get_or-map (λ t. t.index) ts k d 0 below) ∙ ap (λ xs. get_or xs k 0) is.indices ∙ get_or-range_with_len 0 (length ts) k 0 below ∙ zero-add k

-- a triple of rank p, the l-th of that rank
pub record IsSeat (ts : List Triple) (p l : ℕ) (t : Triple) : Type 0 where
  pub within : t.index < length ts
  pub same : get_or ts t.index no_triple ≡ t
  pub rank : t.rank ≡ p
  pub local : t.local ≡ l

seat_from : (ranks : ℕ) (ts : List Triple) → IsPlacement ranks ts → (p l : ℕ) → l < length (at_rank p ts) →
    (k : ℕ) × (k < length ts) × (get_or ts k no_triple ≡ get_or (at_rank p ts) l no_triple) → IsSeat ts p l (get_or (at_rank p ts) l no_triple)
seat_from ranks ts is p l below (k, inside, at) =
    let t : Triple = get_or (at_rank p ts) l no_triple in
    let index : t.index ≡ k = sym (ap (λ t. t.index) at) ∙ index_at ranks ts is k no_triple inside in
    let rank : t.rank ≡ p = eqb-true t.rank p (filter_passes (λ t. t.rank == p) ts l no_triple below) in
    let some : p < ranks = subst (λ n. n < ranks) (ap (λ t. t.rank) at ∙ rank) (is.owners k no_triple inside) in record {
      within = rw index inside;
      same = ap (λ i. get_or ts i no_triple) index ∙ at;
      rank = rank;
      local = sym (get_or-map (λ t. t.local) (at_rank p ts) l no_triple 0 below) ∙ ap (λ xs. get_or xs l 0) (is.locals p some) ∙ get_or-range_with_len 0 (length (at_rank p ts)) l 0 below ∙ zero-add l;
    }

seat : (ranks : ℕ) (ts : List Triple) → IsPlacement ranks ts → (p l : ℕ) → l < length (at_rank p ts) → IsSeat ts p l (get_or (at_rank p ts) l no_triple)
seat ranks ts is p l below = seat_from ranks ts is p l below (found (λ t. t.rank == p) ts l no_triple below)

-- an index stands among those of its owner, at its local number
seated_from : (ranks : ℕ) (ts : List Triple) → IsPlacement ranks ts → (i p : ℕ) → i < length ts → (l : ℕ) × (l < length (at_rank p ts)) × (get_or (at_rank p ts) l no_triple ≡ get_or ts i no_triple) →
    ((get_or ts i no_triple).local < length (at_rank p ts)) × (get_or (at_rank p ts) (get_or ts i no_triple).local no_triple ≡ get_or ts i no_triple)
seated_from ranks ts is i p inside (l, below, at) =
    let local : (get_or ts i no_triple).local ≡ l = sym (ap (λ t. t.local) at) ∙ (seat ranks ts is p l below).local in
    (rw local below, ap (λ n. get_or (at_rank p ts) n no_triple) local ∙ at)

seated : (ranks : ℕ) (ts : List Triple) → IsPlacement ranks ts → (i : ℕ) → i < length ts → let t = get_or ts i no_triple in
    (t.local < length (at_rank t.rank ts)) × (get_or (at_rank t.rank ts) t.local no_triple ≡ t)
seated ranks ts is i inside =
    let t : Triple = get_or ts i no_triple in
    seated_from ranks ts is i t.rank inside (kept (λ u. u.rank == t.rank) ts i no_triple inside (eq-eqb t.rank t.rank refl))

index_of_global : (ts : List Triple) (p l : ℕ) → l < length (at_rank p ts) → global_of ts p l ≡ (get_or (at_rank p ts) l no_triple).index
unfolding global_of owned_indices
index_of_global ts p l below = get_or-map (λ t. t.index) (at_rank p ts) l no_triple 0 below

pub owner-below : {ranks : ℕ} {ts : List Triple} → IsPlacement ranks ts → (i : ℕ) → i < length ts → owner_of ts i < ranks
unfolding owner_of
owner-below {ranks} {ts} is i inside = is.owners i no_triple inside

pub global-below : {ranks : ℕ} {ts : List Triple} → IsPlacement ranks ts → (p l : ℕ) → l < owned_of ts p → global_of ts p l < length ts
unfolding owned_of
global-below {ranks} {ts} is p l below = rw (index_of_global ts p l below) (seat ranks ts is p l below).within

pub global-owner-local : {ranks : ℕ} {ts : List Triple} → IsPlacement ranks ts → (i : ℕ) → i < length ts → global_of ts (owner_of ts i) (local_of ts i) ≡ i
unfolding owner_of local_of
global-owner-local {ranks} {ts} is i inside =
    let t : Triple = get_or ts i no_triple in
    let at = seated ranks ts is i inside in
    index_of_global ts t.rank t.local at.0 ∙ ap (λ u. u.index) at.1 ∙ index_at ranks ts is i no_triple inside

pub owner-global : {ranks : ℕ} {ts : List Triple} → IsPlacement ranks ts → (p l : ℕ) → l < owned_of ts p → owner_of ts (global_of ts p l) ≡ p
unfolding owner_of owned_of
owner-global {ranks} {ts} is p l below =
    let s = seat ranks ts is p l below in
    ap (λ i. (get_or ts i no_triple).rank) (index_of_global ts p l below) ∙ ap (λ t. t.rank) s.same ∙ s.rank

pub local-global : {ranks : ℕ} {ts : List Triple} → IsPlacement ranks ts → (p l : ℕ) → l < owned_of ts p → local_of ts (global_of ts p l) ≡ l
unfolding local_of owned_of
local-global {ranks} {ts} is p l below =
    let s = seat ranks ts is p l below in
    ap (λ i. (get_or ts i no_triple).local) (index_of_global ts p l below) ∙ ap (λ t. t.local) s.same ∙ s.local

pub local-below : {ranks : ℕ} {ts : List Triple} → IsPlacement ranks ts → (i : ℕ) → i < length ts → local_of ts i < owned_of ts (owner_of ts i)
unfolding owner_of local_of owned_of
local-below {ranks} {ts} is i inside = (seated ranks ts is i inside).0

rising : (ranks : ℕ) (ts : List Triple) → IsPlacement ranks ts → AllPairs (λ t u. t.index < u.index) ts
rising ranks ts is i j d up inside = rw (index_at ranks ts is i d (omega (arith, up, inside)), index_at ranks ts is j d inside) up

pub global-rises : {ranks : ℕ} {ts : List Triple} → IsPlacement ranks ts → (p k l : ℕ) → k < l → l < owned_of ts p → global_of ts p k < global_of ts p l
unfolding owned_of
global-rises {ranks} {ts} is p k l up below =
    rw (index_of_global ts p k (omega (arith, up, below)), index_of_global ts p l below)
    (AllPairs-filter (λ t u. t.index < u.index) (λ t. t.rank == p) ts (rising ranks ts is) k l no_triple up below)
