-- The numbers of elements in the part of the rank that owns them.
use Rattle.std.proofs.Common.{◌≡◌, ◌∙◌, ℕ, suc, ◌+◌, ◌*◌, ◌<◌, ◌≤◌, ◌==◌, Bool, true, false, cond, List, [], ◌∷◌, length, map, get_or, refl, sym, ap, subst, arith}
use Rattle.std.specs.List.{filter, range_with_len}
use Rattle.std.proofs.Math.Nat.{zero-add, mul-le-mul_right}
use Rattle.std.proofs.lemmas.Bool.{eqb-true}
use Rattle.std.proofs.lemmas.List.{get_or-map}
use Rattle.std.proofs.lemmas.List.Elements.{filter_passes}
use Rattle.std.proofs.lemmas.List.FromFn.{get_or-range_with_len}
use Rattle.std.proofs.lemmas.Nat.{mul-add-lt}
use Rattle.bern_base.specs.declared.job.ArrayDecl.{ArrayDecl}
use Rattle.placement.specs.Placement.{IsPlacement, Triple, at_rank, global_of, local_of, no_triple, owned_of, owner_of}
use Rattle.placement.specs.PlacementLaws.{global-owner-local, local-below}

-- ---- what a rank owns

few_kept : {X : Type 0} (p : X → Bool) (xs : List X) → length (filter p xs) ≤ length xs
few_kept p [] = omega arith
few_kept p (x ∷ xs) = by (p x) (few_kept p xs)
  where
    by : (b : Bool) → length (filter p xs) ≤ length xs → length (cond b (x ∷ filter p xs) (filter p xs)) ≤ suc (length xs)
    by true rest = omega (arith, rest)
    by false rest = omega (arith, rest)

pub owned_few : (ts : List Triple) (p : ℕ) → owned_of ts p ≤ length ts
unfolding owned_of
owned_few ts p = few_kept (λ t. t.rank == p) ts

-- what passes whole is the list
all_kept : {X : Type 0} (p : X → Bool) (xs : List X) → length (filter p xs) ≡ length xs → filter p xs ≡ xs
all_kept p [] all = refl
all_kept p (x ∷ xs) all = by (p x) (all_kept p xs) all
  where
    by : (b : Bool) → (length (filter p xs) ≡ length xs → filter p xs ≡ xs) → length (cond b (x ∷ filter p xs) (filter p xs)) ≡ suc (length xs) → cond b (x ∷ filter p xs) (filter p xs) ≡ x ∷ xs
    by true rest all = ap (λ ys. x ∷ ys) (rest (omega (arith, all)))
    by false rest all = absurd (omega (arith, all, few_kept p xs))

rank_of_kept : (p : ℕ) (ts : List Triple) → at_rank p ts ≡ ts → (i : ℕ) → i < length ts → (get_or ts i no_triple).rank ≡ p
rank_of_kept p ts all i low =
    ap (λ (us : List Triple). (get_or us i no_triple).rank) (sym all) ∙ eqb-true (get_or (at_rank p ts) i no_triple).rank p (filter_passes (λ (t : Triple). t.rank == p) ts i no_triple (subst (λ (us : List Triple). i < length us) (sym all) low))

-- a rank that owns as many indices as there are owns each, by its own number
pub whole_owner : (ts : List Triple) (p i : ℕ) → owned_of ts p ≡ length ts → i < length ts → owner_of ts i ≡ p
unfolding owned_of owner_of
whole_owner ts p i all low = rank_of_kept p ts (all_kept (λ (t : Triple). t.rank == p) ts all) i low

pub whole_local : {ranks : ℕ} (ts : List Triple) (p i : ℕ) → IsPlacement ranks ts → p < ranks → owned_of ts p ≡ length ts → i < length ts → local_of ts i ≡ i
unfolding owned_of local_of
whole_local ts p i is rank all low =
    let kept : at_rank p ts ≡ ts = all_kept (λ (t : Triple). t.rank == p) ts all in
    let locals : map (λ (t : Triple). t.local) ts ≡ range_with_len 0 (length ts) = ap (map (λ (t : Triple). t.local)) (sym kept) ∙ is.locals p rank ∙ ap (λ n. range_with_len 0 n) all in
    sym (get_or-map (λ (t : Triple). t.local) ts i no_triple 0 low) ∙ ap (λ (ns : List ℕ). get_or ns i 0) locals ∙ get_or-range_with_len 0 (length ts) i 0 low ∙ zero-add i

-- the number of an owned index is one of the rank's
pub local_low : {ranks : ℕ} (ts : List Triple) (p i : ℕ) → IsPlacement ranks ts → i < length ts → owner_of ts i ≡ p → local_of ts i < owned_of ts p
local_low ts p i is low own = subst (λ q. local_of ts i < owned_of ts q) own (local-below is i low)

-- two indices of a rank have numbers of their own
pub local_once : {ranks : ℕ} (ts : List Triple) (p i j : ℕ) → IsPlacement ranks ts → i < length ts → j < length ts → owner_of ts i ≡ p → owner_of ts j ≡ p → local_of ts i ≡ local_of ts j → i ≡ j
local_once ts p i j is low below own other same =
    sym (global-owner-local is i low) ∙ ap (λ q. global_of ts q (local_of ts i)) own ∙ ap (global_of ts p) same ∙ sym (ap (λ q. global_of ts q (local_of ts j)) other) ∙ global-owner-local is j below

-- ---- numbers of elements are small

pub by_row_low : {ranks : ℕ} (ts : List Triple) (array : ArrayDecl) (row col : ℕ) → IsPlacement ranks ts → length ts ≡ array.rows → row < array.rows → col < array.cols →
    local_of ts row * array.cols + col < array.rows * array.cols
by_row_low ts array row col is long low beside =
    let local = local_low ts (owner_of ts row) row is (omega (arith, long, low)) refl in
    let few = owned_few ts (owner_of ts row) in
    omega (arith, mul-add-lt (local_of ts row) array.cols col array.rows (omega (arith, local, few, long)) beside)

pub by_col_low : {ranks : ℕ} (ts : List Triple) (array : ArrayDecl) (rank row col : ℕ) → IsPlacement ranks ts → length ts ≡ array.cols → row < array.rows → col < array.cols → owner_of ts col ≡ rank →
    row * owned_of ts rank + local_of ts col < array.rows * array.cols
by_col_low ts array rank row col is long low beside own =
    let local = local_low ts rank col is (omega (arith, long, beside)) own in
    let few : owned_of ts rank ≤ array.cols = omega (arith, owned_few ts rank, long) in
    let inside = mul-add-lt row (owned_of ts rank) (local_of ts col) array.rows low local in
    omega (arith, inside, mul-le-mul_right array.rows few)

pub product_low : (row n cols rows : ℕ) → row < rows → n ≤ cols → row * n ≤ rows * cols
product_low row n cols rows low few =
    let first : row * n ≤ rows * n = mul-le-mul_right n (omega (arith, low)) in
    let next : n * rows ≤ cols * rows = mul-le-mul_right rows few in
    omega (arith, first, next)
