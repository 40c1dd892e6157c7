-- A list of values after values were added or put at given places.
use Rattle.std.proofs.Common.{◌≡◌, ◌≢◌, ◌∙◌, ℕ, zero, suc, ◌+◌, ◌%◌, ◌^◌, ◌<◌, Bool, true, false, ◌==◌, ◌||◌, List, [], ◌∷◌, length, get_or, refl, sym, ap, subst, ⊎_elim, arith}
use Rattle.std.specs.Prelude.{if◌then◌else◌, slice_index, slice_set}
use Rattle.std.specs.List.{All, AllPairs, fold, list_any, sum_by}
use Rattle.std.proofs.Math.Nat.{add-zero, add_assoc, mod-lt, mod-eq_of_lt, mod-add-mod, add-mod-mod}
use Rattle.std.proofs.lemmas.Bool.{cases_eq, eq-eqb, ne_eqb}
use Rattle.std.proofs.lemmas.List.{get_or-set_other, get_or-set_same, length-set}
use Rattle.std.proofs.lemmas.List.Elements.{All-head, All-tail}
use Rattle.std.proofs.lemmas.List.Sums.{sum_by-cons}
use Rattle.std.proofs.lemmas.Nat.{pow_pos}
use Rattle.bern_base.proofs.SumLemmas.{sum_by_none}
use Rattle.job_model.specs.Nests.{changed}
use Rattle.pass_model.specs.Sums.{applied}

pub pairs_head : {X : Type 0} (R : X → X → Type 0) (x : X) (xs : List X) → AllPairs R (x ∷ xs) → All (R x) xs
pairs_head R x xs pairs k d below = pairs 0 (suc k) d (omega arith) (omega (arith, below))

pub pairs_tail : {X : Type 0} (R : X → X → Type 0) (x : X) (xs : List X) → AllPairs R (x ∷ xs) → AllPairs R xs
pairs_tail R x xs pairs i j d up below = pairs (suc i) (suc j) d (omega (arith, up)) (omega (arith, below))

module _ {X : Type 0} (at value : X → ℕ) where
  -- one value more, at its place
  abbrev pub written : Bool → List ℕ → X → List ℕ
  written replace values x = slice_set values (at x) (changed replace (slice_index values (at x)) (value x))

  -- what an item adds at a place
  abbrev pub share : ℕ → X → ℕ
  share k x = if at x == k then value x else 0

  pub length-written : (replace : Bool) (values : List ℕ) (xs : List X) → length (fold (written replace) values xs) ≡ length values
  length-written replace values [] = refl
  length-written replace values (x ∷ xs) =
      length-written replace (written replace values x) xs ∙ length-set values (at x) (changed replace (slice_index values (at x)) (value x))

  here : (replace : Bool) (values : List ℕ) (x : X) (k : ℕ) → k < length values → at x ≡ k → slice_index (written replace values x) k ≡ changed replace (slice_index values k) (value x)
  here replace values x k below same =
      ap (λ n. slice_index (slice_set values n (changed replace (slice_index values n) (value x))) k) same ∙ get_or-set_same values k (changed replace (slice_index values k) (value x)) 0 below

  pub elsewhere : (replace : Bool) (values : List ℕ) (x : X) (k : ℕ) → at x ≢ k → slice_index (written replace values x) k ≡ slice_index values k
  elsewhere replace values x k apart = get_or-set_other values (at x) k (changed replace (slice_index values (at x)) (value x)) 0 (λ same. apart (sym same))

  still_below : (replace : Bool) (values : List ℕ) (x : X) (k : ℕ) → k < length values → k < length (written replace values x)
  still_below replace values x k below = subst (λ n. k < n) (sym (length-set values (at x) (changed replace (slice_index values (at x)) (value x)))) below

  -- sums
  one_added : (values : List ℕ) (x : X) (k : ℕ) → k < length values → slice_index values k < 2 ^ 64 → slice_index (written false values x) k ≡ (slice_index values k + share k x) % 2 ^ 64
  one_added values x k below low = ⊎_elim
      (λ (same : at x ≡ k). rw (eq-eqb (at x) k same) (here false values x k below same))
      (λ (apart : at x ≢ k). rw (ne_eqb (at x) k apart, add-zero (slice_index values k)) (elsewhere false values x k apart ∙ sym (mod-eq_of_lt low)))
      (cases_eq (at x) k)

  add_step : (y p s m : ℕ) → ((y + p) % m + s) % m ≡ (y + (p + s)) % m
  add_step y p s m = mod-add-mod (y + p) m s ∙ ap (λ t. t % m) (add_assoc y p s)

  added : (xs : List X) (values : List ℕ) (k : ℕ) → k < length values → slice_index values k < 2 ^ 64 →
      slice_index (fold (written false) values xs) k ≡ (slice_index values k + sum_by (share k) xs) % 2 ^ 64
  added [] values k below low = sym (ap (λ t. t % 2 ^ 64) (add-zero (slice_index values k)) ∙ mod-eq_of_lt low)
  added (x ∷ xs) values k below low =
      let next : slice_index (written false values x) k ≡ (slice_index values k + share k x) % 2 ^ 64 = one_added values x k below low in
      let small : slice_index (written false values x) k < 2 ^ 64 = subst (λ v. v < 2 ^ 64) (sym next) (mod-lt (slice_index values k + share k x) (pow_pos 64)) in
      added xs (written false values x) k (still_below false values x k below) small
      ∙ ap (λ v. (v + sum_by (share k) xs) % 2 ^ 64) next
      ∙ add_step (slice_index values k) (share k x) (sum_by (share k) xs) (2 ^ 64)
      ∙ ap (λ s. (slice_index values k + s) % 2 ^ 64) (sym (sum_by-cons (share k) x xs))

  -- values that are put in place of others, each at a place of its own
  untouched : (xs : List X) (values : List ℕ) (k : ℕ) → All (λ x. at x ≢ k) xs → slice_index (fold (written true) values xs) k ≡ slice_index values k
  untouched [] values k apart = refl
  untouched (x ∷ xs) values k apart =
      untouched xs (written true values x) k (All-tail (λ x. at x ≢ k) x xs apart) ∙ elsewhere true values x k (All-head (λ x. at x ≢ k) x xs apart)

  no_share : (xs : List X) (k : ℕ) → All (λ x. at x ≢ k) xs → sum_by (share k) xs ≡ 0
  no_share xs k apart = sum_by_none (share k) xs (λ j d below. ap (λ b. if b then value (get_or xs j d) else 0) (ne_eqb (at (get_or xs j d)) k (apart j d below)))

  put : (xs : List X) (values : List ℕ) (k : ℕ) → k < length values → ((x : X) → value x < 2 ^ 64) → AllPairs (λ x y. at x ≢ at y) xs →
      slice_index (fold (written true) values xs) k ≡ (if list_any (λ x. at x == k) xs then sum_by (share k) xs % 2 ^ 64 else slice_index values k)
  put [] values k below small apart = refl
  put (x ∷ xs) values k below small apart = ⊎_elim
      (λ (same : at x ≡ k).
      let rest : All (λ y. at y ≢ k) xs = λ j d under alike. pairs_head (λ x y. at x ≢ at y) x xs apart j d under (same ∙ sym alike) in
      let sum : sum_by (share k) (x ∷ xs) ≡ value x =
      sum_by-cons (share k) x xs ∙ ap (λ b. (if b then value x else 0) + sum_by (share k) xs) (eq-eqb (at x) k same) ∙ ap (λ s. value x + s) (no_share xs k rest) ∙ add-zero (value x) in
      untouched xs (written true values x) k rest ∙ here true values x k below same
      ∙ sym (ap (λ b. if (b || list_any (λ x. at x == k) xs) then sum_by (share k) (x ∷ xs) % 2 ^ 64 else slice_index values k) (eq-eqb (at x) k same)
      ∙ ap (λ s. s % 2 ^ 64) sum ∙ mod-eq_of_lt (small x)))
      (λ (other : at x ≢ k).
      let sum : sum_by (share k) (x ∷ xs) ≡ sum_by (share k) xs =
      sum_by-cons (share k) x xs ∙ ap (λ b. (if b then value x else 0) + sum_by (share k) xs) (ne_eqb (at x) k other) ∙ omega arith in
      put xs (written true values x) k (still_below true values x k below) small (pairs_tail (λ x y. at x ≢ at y) x xs apart)
      ∙ ap (λ v. if list_any (λ x. at x == k) xs then sum_by (share k) xs % 2 ^ 64 else v) (elsewhere true values x k other)
      ∙ sym (ap (λ b. if (b || list_any (λ x. at x == k) xs) then sum_by (share k) (x ∷ xs) % 2 ^ 64 else slice_index values k) (ne_eqb (at x) k other)
      ∙ ap (λ s. if list_any (λ x. at x == k) xs then s % 2 ^ 64 else slice_index values k) sum))
      (cases_eq (at x) k)

  -- by both: what stands at a place in the end
  pub written_is : (replace : Bool) (xs : List X) (values : List ℕ) (k : ℕ) → k < length values → slice_index values k < 2 ^ 64 → ((x : X) → value x < 2 ^ 64) → (replace ≡ true → AllPairs (λ x y. at x ≢ at y) xs) →
      slice_index (fold (written replace) values xs) k ≡ applied replace (list_any (λ x. at x == k) xs) (slice_index values k) (sum_by (share k) xs % 2 ^ 64)
  written_is true xs values k below low small apart = put xs values k below small (apart refl)
  written_is false xs values k below low small apart = added xs values k below low ∙ sym (add-mod-mod (slice_index values k) (sum_by (share k) xs) (2 ^ 64))

  pub written_small : (replace : Bool) (xs : List X) (values : List ℕ) → ((k : ℕ) → slice_index values k < 2 ^ 64) → ((x : X) → value x < 2 ^ 64) → (k : ℕ) → slice_index (fold (written replace) values xs) k < 2 ^ 64
  written_small replace [] values low small k = low k
  written_small replace (x ∷ xs) values low small k = written_small replace xs (written replace values x) each small k
    where
      new_small : (replace : Bool) → changed replace (slice_index values (at x)) (value x) < 2 ^ 64
      new_small true = small x
      new_small false = mod-lt (slice_index values (at x) + value x) (pow_pos 64)

      set_small : (vs : List ℕ) (n v : ℕ) → v < 2 ^ 64 → ((k : ℕ) → slice_index vs k < 2 ^ 64) → (k : ℕ) → slice_index (slice_set vs n v) k < 2 ^ 64
      set_small [] n v new old k = old k
      set_small (w ∷ ws) zero v new old zero = new
      set_small (w ∷ ws) zero v new old (suc k) = old (suc k)
      set_small (w ∷ ws) (suc n) v new old zero = old 0
      set_small (w ∷ ws) (suc n) v new old (suc k) = set_small ws n v new (λ j. old (suc j)) k

      each : (k : ℕ) → slice_index (written replace values x) k < 2 ^ 64
      each k = set_small values (at x) (changed replace (slice_index values (at x)) (value x)) (new_small replace) low k
