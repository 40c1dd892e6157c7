-- On one rank an element's number in the part is its number in the array.
use Rattle.std.proofs.Common.{◌≡◌, ◌∙◌, ℕ, zero, suc, ◌+◌, ◌*◌, ◌/◌, ◌%◌, ◌<◌, ◌≤◌, ◌==◌, Bool, true, false, List, [], ◌∷◌, Option, Some, None, map, length, filter, get_or, refl, sym, ap, subst, ⊎_elim, arith, zero-add}
use Rattle.std.specs.Prelude.{if◌then◌else◌, slice_get, slice_index_or}
use Rattle.std.specs.List.{All, range_with_len}
use Rattle.std.proofs.Math.Nat.{div-add-mod', div-eq_of_lt, div-lt_iff_lt-mul, mod-eq_of_lt, mod-lt, mod-one, mul-one, zero-mul}
use Rattle.std.proofs.lemmas.Bool.{eq-eqb}
use Rattle.std.proofs.lemmas.List.{length-map}
use Rattle.std.proofs.lemmas.List.Elements.{All-map}
use Rattle.std.proofs.lemmas.List.FromFn.{get_or-map-range_with_len, length-map-range_with_len}
use Rattle.bern_base.specs.declared.job.ArrayDecl.{ArrayDecl}
use Rattle.bern_base.specs.declared.job.Checked.{Checked}
use Rattle.bern_base.specs.declared.job.ExtentDecl.{ExtentDecl}
use Rattle.bern_base.specs.declared.job.PlaceDecl.{PlaceDecl}
use Rattle.job_model.specs.Accepted.{IsAccepted, IsArrayOf, IsPlaceOf, is_col, split_size}
use Rattle.node_prog.specs.Conditions.{ArePlaced}
use Rattle.node_prog.proofs.HomeLemmas.{item, no_item}
use Rattle.pass_model.specs.Local.{IsOwn, local_element, own_size, triples_in}
use Rattle.placement.specs.AnyPlaces.{any_ranks, any_triples}
use Rattle.placement.specs.Cyclic.{cyclic_triple, cyclic_triples}
use Rattle.placement.specs.Placement.{Triple, at_rank, local_of, no_triple, owned_of, owner_of}
use Rattle.placement.specs.declared.any_place.AnyPlace.{AnyPlace}
use Rattle.term_model.specs.Answers.{owner_in}
use Rattle.whole_laws.specs.Alone.{OwnsAll}
use Rattle.whole_laws.proofs.AloneLemmas.{one-rank-owns_all, owner_is}
use Rattle.whole_laws.proofs.ChangeLemmas.{some_cols}
use Rattle.whole_turns.specs.OneRank.{AreWhole}

-- ---- one block for one rank

pub local_same : (n i : ℕ) → i < n → local_of (cyclic_triples n 1 n) i ≡ i
unfolding local_of
local_same n i low =
    ap (λ (t : Triple). t.local) (get_or-map-range_with_len (cyclic_triple 1 n) 0 n i i no_triple low (zero-add i))
    ∙ ap (λ q. q * n + i % n) (ap (λ m. i / m) (mul-one n) ∙ div-eq_of_lt low) ∙ ap (λ m. 0 * n + m) (mod-eq_of_lt low) ∙ omega arith

keeps_mapped : {X Y : Type 0} (f : X → Y) (p : Y → Bool) (xs : List X) → ((x : X) → p (f x) ≡ true) → filter p (map f xs) ≡ map f xs
keeps_mapped f p [] all = refl
keeps_mapped f p (x ∷ xs) all = ap (λ b. if b then f x ∷ filter p (map f xs) else filter p (map f xs)) (all x) ∙ ap (λ ys. f x ∷ ys) (keeps_mapped f p xs all)

pub owned_same : (n : ℕ) → owned_of (cyclic_triples n 1 n) 0 ≡ n
unfolding owned_of
owned_same n =
    ap length (keeps_mapped (cyclic_triple 1 n) (λ t. t.rank == 0) (range_with_len 0 n) (λ i. eq-eqb (i / n % 1) 0 (mod-one (i / n))))
    ∙ length-map-range_with_len (cyclic_triple 1 n) 0 n

-- ---- items of lists

pub some_at : {X : Type 0} (xs : List X) (k : ℕ) → k < length xs → (x : X) × (slice_get xs k ≡ Some x)
some_at [] k low = absurd (omega (arith, low))
some_at (x ∷ xs) zero low = (x, refl)
some_at (x ∷ xs) (suc k) low = some_at xs k (omega (arith, low))

pub below : {X : Type 0} (xs : List X) (k : ℕ) (x : X) → slice_get xs k ≡ Some x → k < length xs
below [] k x is = absurd cc
below (y ∷ xs) zero x is = omega arith
below (y ∷ xs) (suc k) x is = let rest = below xs k x is in omega arith

pub all_at : {X : Type 0} (P : X → Type 0) (xs : List X) (k : ℕ) (x : X) → All P xs → slice_get xs k ≡ Some x → P x
all_at P [] k x all is = absurd cc
all_at P (y ∷ xs) zero x all is = let same : y ≡ x = cc in subst P same (all 0 y (omega arith))
all_at P (y ∷ xs) (suc k) x all is = all_at P xs k x (λ j d low. all (suc j) d (omega (arith, low))) is

pub some_same : {X : Type 0} (o : Option X) (x y : X) → o ≡ Some x → o ≡ Some y → x ≡ y
some_same o x y first second = cc

-- ---- the places of a job

module _ (job : Checked) (places : List AnyPlace) (accepted : IsAccepted job) (are : AreWhole job places) where
  abbrev triples : List (List Triple)
  triples = map any_triples places

  -- the triples of a place line
  place_is : (number : ℕ) (line : PlaceDecl) (extent : ExtentDecl) → slice_get job.places number ≡ Some line → slice_get job.extents line.extent ≡ Some extent →
      slice_index_or triples number [] ≡ cyclic_triples extent.size 1 extent.size
  place_is number line extent line_is extent_is =
      let place = some_at places number (omega (arith, are.count, below job.places number line line_is)) in
      item any_triples places number place.0 [] place.1 ∙ are.triples number line extent place.0 line_is extent_is place.1

  pub owns_all : OwnsAll triples
  unfolding owner_of
  owns_all number index = by_place (slice_get places number) refl
    where
      by_place : (found : Option AnyPlace) → slice_get places number ≡ found → owner_of (slice_index_or triples number []) index ≡ 0
      by_place None is = ap (λ ts. owner_of ts index) (no_item any_triples places number [] is)
      by_place (Some place) is =
          let line = some_at job.places number (omega (arith, are.count, below places number place is)) in
          let extent = some_at job.extents line.0.extent (all_at (IsPlaceOf job) job.places number line.0 accepted.places line.1).extent in
          ap (λ ts. owner_of ts index) (place_is number line.0 extent.0 line.1 extent.1) ∙ one-rank-owns_all extent.0.size extent.0.size index

  pub placed : ArePlaced job triples (map any_ranks places) 0
  placed = record {
    count = length-map places any_triples ∙ are.count;
    extents = λ number line extent line_is extent_is.
        ap length (place_is number line extent line_is extent_is) ∙ length-map-range_with_len (cyclic_triple 1 extent.size) 0 extent.size;
    among = All-map (λ n. 0 < n) any_ranks places (λ k d low. let one = are.ranks k d low in omega (arith, one));
  }

  -- the triples that deal an array
  dealt : (number : ℕ) (array : ArrayDecl) → slice_get job.arrays number ≡ Some array → triples_in triples array ≡ cyclic_triples (split_size array) 1 (split_size array)
  dealt number array is =
      let place = (all_at (IsArrayOf job) job.arrays number array accepted.arrays is).place in
      place_is array.place place.0 place.2.0 place.1 place.2.1 ∙ ap (λ n. cyclic_triples n 1 n) place.2.2

  pub size_is : (number : ℕ) (array : ArrayDecl) → slice_get job.arrays number ≡ Some array → own_size triples array 0 ≡ array.rows * array.cols
  size_is number array is = ap (λ ts. sized ts) (dealt number array is) ∙ by_axis (is_col array.axis)
    where
      sized : List Triple → ℕ
      sized ts = (if is_col array.axis then array.rows else owned_of ts 0) * (if is_col array.axis then owned_of ts 0 else array.cols)

      by_axis : (col : Bool) → (if col then array.rows else owned_of (cyclic_triples (if col then array.cols else array.rows) 1 (if col then array.cols else array.rows)) 0) *
          (if col then owned_of (cyclic_triples (if col then array.cols else array.rows) 1 (if col then array.cols else array.rows)) 0 else array.cols) ≡ array.rows * array.cols
      by_axis true = ap (λ c. array.rows * c) (owned_same array.cols)
      by_axis false = ap (λ r. r * array.cols) (owned_same array.rows)

  pub element_is : (number : ℕ) (array : ArrayDecl) (n : ℕ) → slice_get job.arrays number ≡ Some array → n < array.rows * array.cols → local_element triples array 0 n ≡ n
  element_is number array n is low = ap (λ ts. located ts) (dealt number array is) ∙ by_axis (is_col array.axis)
    where
      some : 0 < array.cols
      some = some_cols array.rows array.cols n low

      located : List Triple → ℕ
      located ts =
          (if is_col array.axis then n / array.cols else local_of ts (n / array.cols)) * (if is_col array.axis then owned_of ts 0 else array.cols)
          + (if is_col array.axis then local_of ts (n % array.cols) else n % array.cols)

      by_axis : (col : Bool) →
          (if col then n / array.cols else local_of (cyclic_triples (if col then array.cols else array.rows) 1 (if col then array.cols else array.rows)) (n / array.cols))
          * (if col then owned_of (cyclic_triples (if col then array.cols else array.rows) 1 (if col then array.cols else array.rows)) 0 else array.cols)
          + (if col then local_of (cyclic_triples (if col then array.cols else array.rows) 1 (if col then array.cols else array.rows)) (n % array.cols) else n % array.cols) ≡ n
      by_axis true =
          ap (λ c. n / array.cols * c + local_of (cyclic_triples array.cols 1 array.cols) (n % array.cols)) (owned_same array.cols)
          ∙ ap (λ k. n / array.cols * array.cols + k) (local_same array.cols (n % array.cols) (mod-lt n some)) ∙ div-add-mod' n array.cols
      by_axis false =
          ap (λ k. k * array.cols + n % array.cols) (local_same array.rows (n / array.cols) ((div-lt_iff_lt-mul some).1 low)) ∙ div-add-mod' n array.cols

  -- the rank owns each element
  pub own_is : (array : ArrayDecl) (n : ℕ) → n < array.rows * array.cols → IsOwn triples array 0 n
  own_is array n low = record { inside = low; owner = owner_is triples owns_all (Some array) n }
