-- The places of a matrix that lists each index once are a placement, and their seats and lists.
use Rattle.std.proofs.Common.{◌≡◌, ℕ, zero, suc, ◌+◌, ◌<◌, ◌≤◌, Bool, true, false, cond, not, ◌==◌, ltb, List, [], ◌∷◌, ◌++◌, map, filter, length, get_or, take, drop, All, Some, sym, ap, ◌∙◌, subst, refl, ⊎_elim, arith}
use Rattle.std.proofs.Math.Nat.{zero-add}
use Rattle.std.specs.List.{enumerate_from, range_with_len, slice_get}
use Rattle.std.proofs.lemmas.Bool.{cases_lt, cond-true, cond-false, lt-ltb, le-ltb, eqb-true}
use Rattle.std.proofs.lemmas.List.{append-nil, get_or-map, length-map, length-append, map-append, length-take, take_all, take_more}
use Rattle.std.proofs.lemmas.List.Elements.{All-map, filter_more}
use Rattle.std.proofs.lemmas.List.FromFn.{get_or-enumerate_from, get_or-map-range_with_len, get_or-range_with_len, length-enumerate_from, length-range_with_len}
use Rattle.std.proofs.lemmas.List.Filters.{length-filter_both}
use Rattle.std.proofs.lemmas.Option.{get_or_from_slice_get, slice_get_within}
use Rattle.std.proofs.lemmas.Simd.{map-map}
use Rattle.bern_base.specs.declared.matrix.Entry.{Entry}
use Rattle.bern_base.specs.declared.matrix.Matrix.{Matrix}
use Rattle.placement.specs.Listed.{IsSeating, entries_below, listed_triple, listed_triples, seat_triple, seat_triples}
use Rattle.placement.specs.Part.{dealt}
use Rattle.placement.specs.Placement.{Triple, IsPlacement, at_rank, no_triple, owner_of, local_of, owned_indices, owned_of, global_of}
use Rattle.placement.specs.PlacementLaws.{range_more, global-below, owner-below, owner-global}
use Rattle.placement.specs.declared.place.Seat.{Seat}
use Rattle.placement.proofs.ShareLemmas.{map_agree}

pub no_entry : Entry
no_entry = record { row = 0; col = 0; value = 0 }

-- the seat of an entry
abbrev pub seat_of : List Entry → Entry → Seat
seat_of entries e = record { owner = e.col; local = (listed_triple entries e).local }

pub length-seat_triples : (seats : List Seat) → length (seat_triples seats) ≡ length seats
length-seat_triples seats = length-map (enumerate_from 0 seats) seat_triple ∙ length-enumerate_from 0 seats

-- the triple of an index is by its seat
triple_of_seat : (seats : List Seat) (i : ℕ) (s : Seat) → slice_get seats i ≡ Some s → get_or (seat_triples seats) i no_triple ≡ record { index = i; rank = s.owner; local = s.local }
triple_of_seat seats i s is =
    let within : i < length seats = slice_get_within seats i s is in
    get_or-map seat_triple (enumerate_from 0 seats) i (0, s) no_triple (rw (length-enumerate_from 0 seats) within)
    ∙ ap seat_triple (get_or-enumerate_from 0 seats i (0, s) within ∙ ap (λ n. (n, get_or seats i s)) (zero-add i) ∙ ap (λ (t : Seat). (i, t)) (get_or_from_slice_get seats i s s is))

pub owner_of_seat : (seats : List Seat) (i : ℕ) (s : Seat) → slice_get seats i ≡ Some s → owner_of (seat_triples seats) i ≡ s.owner
unfolding owner_of
owner_of_seat seats i s is = ap (λ t. t.rank) (triple_of_seat seats i s is)

pub local_of_seat : (seats : List Seat) (i : ℕ) (s : Seat) → slice_get seats i ≡ Some s → local_of (seat_triples seats) i ≡ s.local
unfolding local_of
local_of_seat seats i s is = ap (λ t. t.local) (triple_of_seat seats i s is)

-- a test that the first k elements pass and no others keeps them
shifted : (j k : ℕ) → ltb (suc j) (suc k) ≡ ltb j k
shifted j k = ⊎_elim
    (λ less. lt-ltb (suc j) (suc k) (omega (arith, less)) ∙ sym (lt-ltb j k less))
    (λ more. le-ltb (suc j) (suc k) (omega (arith, more)) ∙ sym (le-ltb j k more))
    (cases_lt j k)

pub filter_first : {X : Type 0} (p : X → Bool) (xs : List X) (k : ℕ) → ((j : ℕ) (d : X) → j < length xs → p (get_or xs j d) ≡ ltb j k) → filter p xs ≡ take k xs
filter_first p [] zero first = refl
filter_first p [] (suc k) first = refl
filter_first p (x ∷ xs) zero first =
    cond-false (p x) (x ∷ filter p xs) (filter p xs) (first 0 x (omega arith))
    ∙ filter_first p xs zero (λ j d within. first (suc j) d (omega (arith, within)) ∙ le-ltb (suc j) 0 (omega arith) ∙ sym (le-ltb j 0 (omega arith)))
filter_first p (x ∷ xs) (suc k) first =
    cond-true (p x) (x ∷ filter p xs) (filter p xs) (first 0 x (omega arith) ∙ lt-ltb 0 (suc k) (omega arith))
    ∙ ap (λ ys. x ∷ ys) (filter_first p xs k (λ j d within. first (suc j) d (omega (arith, within)) ∙ shifted j k))

filter-map : {X Y : Type 0} (p : Y → Bool) (f : X → Y) (xs : List X) → filter p (map f xs) ≡ map f (filter (λ x. p (f x)) xs)
filter-map p f [] = refl
filter-map p f (x ∷ xs) =
    ap (λ ys. cond (p (f x)) (f x ∷ ys) ys) (filter-map p f xs)
    ∙ elim (p (f x)) as (λ b. cond b (f x ∷ map f (filter (λ z. p (f z)) xs)) (map f (filter (λ z. p (f z)) xs)) ≡ map f (cond b (x ∷ filter (λ z. p (f z)) xs) (filter (λ z. p (f z)) xs))) [
      | true ↦ refl
      | false ↦ refl
    ]

-- numbers that count what passed before them rise from 0 by one
counts_rise : {X : Type 0} (q : X → Bool) (g : X → ℕ) (xs : List X) (d : X) →
    ((k : ℕ) → k < length xs → q (get_or xs k d) ≡ true → g (get_or xs k d) ≡ length (filter q (take k xs))) →
    (k : ℕ) → k ≤ length xs → map g (filter q (take k xs)) ≡ range_with_len 0 (length (filter q (take k xs)))
counts_rise q g xs d counts zero within = refl
counts_rise {X} q g xs d counts (suc k) within =
    let inside : k < length xs = omega (arith, within) in
    let so_far : List X = filter q (take k xs) in
    let x : X = get_or xs k d in
    let before : map g so_far ≡ range_with_len 0 (length so_far) = counts_rise q g xs d counts k (omega (arith, within)) in
    let P : List X → Type 0 = λ ys. map g ys ≡ range_with_len 0 (length ys) in
    let more : filter q (take (k + 1) xs) ≡ so_far ++ cond (q x) (x ∷ []) [] = filter_more q xs k d inside in
    let step : (b : Bool) → q x ≡ b → P (so_far ++ cond b (x ∷ []) []) = λ b is. elim b as (λ b. q x ≡ b → P (so_far ++ cond b (x ∷ []) [])) [
      | true ↦ (λ yes_. map-append g so_far (x ∷ []) ∙ ap (λ is. is ++ g x ∷ []) before ∙ ap (λ n. range_with_len 0 (length so_far) ++ n ∷ []) (counts k inside yes_)
          ∙ sym (ap (range_with_len 0) (length-append so_far (x ∷ [])) ∙ range_more (length so_far)))
      | false ↦ (λ no_. subst P (sym (append-nil so_far)) before)
    ] is in
    let next : k + 1 ≡ suc k = omega arith in
    subst (λ n. P (filter q (take n xs))) next (subst P (sym more) (step (q x) refl))

module _ (entries : List Entry) (is : map (λ e. e.row) entries ≡ range_with_len 0 (length entries)) where
  pub row_at : (k : ℕ) (d : Entry) → k < length entries → (get_or entries k d).row ≡ k
  row_at k d within = sym (get_or-map (λ e. e.row) entries k d 0 within) ∙ ap (λ xs. get_or xs k 0) is ∙ get_or-range_with_len 0 (length entries) k 0 within ∙ zero-add k

  below_first : (k : ℕ) → entries_below k entries ≡ take k entries
  below_first k = filter_first (λ e. ltb e.row k) entries k (λ j d within. ap (λ i. ltb i k) (row_at j d within))

  -- the local number of an entry counts those of its rank that stand before it
  pub local_at : (k : ℕ) (d : Entry) → k < length entries → (listed_triple entries (get_or entries k d)).local ≡ length (filter (λ f. f.col == (get_or entries k d).col) (take k entries))
  local_at k d within = ap (λ (es : List Entry). length (filter (λ f. f.col == (get_or entries k d).col) es)) (ap (λ i. entries_below i entries) (row_at k d within) ∙ below_first k)

  local_in : (p k : ℕ) (d : Entry) → k < length entries → ((get_or entries k d).col == p) ≡ true → (listed_triple entries (get_or entries k d)).local ≡ length (filter (λ f. f.col == p) (take k entries))
  local_in p k d within here = local_at k d within ∙ ap (λ q. length (filter (λ f. f.col == q) (take k entries))) (eqb-true (get_or entries k d).col p here)

  pub listed-is_placement : (ranks : ℕ) → All (λ e. e.col < ranks) entries → IsPlacement ranks (listed_triples entries)
  listed-is_placement ranks inside = record {
    indices = map-map (λ t. t.index) (listed_triple entries) entries ∙ is ∙ ap (range_with_len 0) (sym (length-map entries (listed_triple entries)));
    owners = All-map (λ t. t.rank < ranks) (listed_triple entries) entries inside;
    locals = λ p below.
        let own : List Entry = filter (λ f. f.col == p) entries in
        let here : at_rank p (listed_triples entries) ≡ map (listed_triple entries) own = filter-map (λ t. t.rank == p) (listed_triple entries) entries in
        let all : take (length entries) entries ≡ entries = take_all (length entries) entries (omega arith) in
        let rises : map (λ e. (listed_triple entries e).local) own ≡ range_with_len 0 (length own) =
        subst (λ es. map (λ e. (listed_triple entries e).local) (filter (λ f. f.col == p) es) ≡ range_with_len 0 (length (filter (λ f. f.col == p) es))) all
        (counts_rise (λ f. f.col == p) (λ e. (listed_triple entries e).local) entries no_entry (λ k within at. local_in p k no_entry within at) (length entries) (omega arith)) in
        ap (map (λ t. t.local)) here ∙ map-map (λ t. t.local) (listed_triple entries) own ∙ rises
        ∙ ap (range_with_len 0) (sym (ap (λ (ts : List Triple). length ts) here ∙ length-map own (listed_triple entries)));
  }

-- the lists by ranks are those of the indices that the ranks own
pub listed-owned : (ranks : ℕ) (entries : List Entry) → dealt (λ e. e.col) (λ e. e.row) ranks entries ≡ map (owned_indices (listed_triples entries)) (range_with_len 0 ranks)
unfolding owned_indices
listed-owned ranks entries =
    map_agree (λ p. map (λ e. e.row) (filter (λ e. e.col == p) entries)) (owned_indices (listed_triples entries)) (range_with_len 0 ranks)
    (λ k d within. sym (ap (map (λ t. t.index)) (filter-map (λ t. t.rank == get_or (range_with_len 0 ranks) k d) (listed_triple entries) entries)
    ∙ map-map (λ t. t.index) (listed_triple entries) (filter (λ e. e.col == get_or (range_with_len 0 ranks) k d) entries)))

-- seats by rising index give the triples of the entries
seats_from : (s : Entry → Seat) (a : ℕ) (entries : List Entry) → map (λ e. e.row) entries ≡ range_with_len a (length entries) →
    map seat_triple (enumerate_from a (map s entries)) ≡ map (λ e. record { index = e.row; rank = (s e).owner; local = (s e).local }) entries
seats_from s a [] is = refl
seats_from s a (e ∷ entries) is =
    let head : e.row ≡ a = ap (λ xs. get_or xs 0 0) is in
    let tail : map (λ f. f.row) entries ≡ range_with_len (a + 1) (length entries) = ap (drop 1) is in
    let first : ℕ → Triple = λ i. record { index = i; rank = (s e).owner; local = (s e).local } in
    let rest : List Triple = map (λ f. record { index = f.row; rank = (s f).owner; local = (s f).local }) entries in
    ap (λ ts. first a ∷ ts) (seats_from s (a + 1) entries tail) ∙ ap (λ i. first i ∷ rest) (sym head)

pub seats-listed : (entries : List Entry) → map (λ e. e.row) entries ≡ range_with_len 0 (length entries) → seat_triples (map (seat_of entries) entries) ≡ listed_triples entries
seats-listed entries is = seats_from (seat_of entries) 0 entries is

-- the step of the loop over the entries
pub seats_more : (entries : List Entry) (i : ℕ) (e : Entry) (before after : List Seat) (s : Seat) → i < length entries → e ≡ get_or entries i e → before ≡ map (seat_of entries) (take i entries) →
    s ≡ seat_of entries e → after ≡ before ++ s ∷ [] → after ≡ map (seat_of entries) (take (i + 1) entries)
seats_more entries i e before after s inside at so_far seat step =
    step ∙ ap (λ ss. ss ++ s ∷ []) so_far ∙ ap (λ t. map (seat_of entries) (take i entries) ++ t ∷ []) (seat ∙ ap (seat_of entries) at)
    ∙ sym (ap (map (seat_of entries)) (take_more entries i e inside) ∙ map-append (seat_of entries) (take i entries) (get_or entries i e ∷ []))

-- the list of a rank has the indices that it owns
pub list_of : (ts : List Triple) (globals : List (List ℕ)) (p : ℕ) (list : List ℕ) → globals ≡ map (owned_indices ts) (range_with_len 0 (length globals)) → slice_get globals p ≡ Some list → list ≡ owned_indices ts p
list_of ts globals p list are is =
    sym (get_or_from_slice_get globals p list [] is) ∙ ap (λ ls. get_or ls p []) are
    ∙ get_or-map-range_with_len (owned_indices ts) 0 (length globals) p p [] (slice_get_within globals p list is) (zero-add p)

pub owned-fits : (seats : List Seat) (p : ℕ) → owned_of (seat_triples seats) p ≤ length seats
unfolding owned_of
owned-fits seats p = omega (arith, length-filter_both (λ t. t.rank == p) (λ t. not (t.rank == p)) (λ t. refl) (seat_triples seats), length-seat_triples seats)

-- a local number at a rank shows that the rank is there
pub rank-below : {ranks : ℕ} {ts : List Triple} → IsPlacement ranks ts → (p l : ℕ) → l < owned_of ts p → p < ranks
rank-below {ranks} {ts} is p l below = subst (λ q. q < ranks) (owner-global is p l below) (owner-below is (global_of ts p l) (global-below is p l below))

pub length-listed_triples : (entries : List Entry) → length (listed_triples entries) ≡ length entries
length-listed_triples entries = length-map entries (listed_triple entries)

pub seating-length : (extent ranks : ℕ) (m : Matrix) → IsSeating extent ranks m → length m.entries ≡ extent
seating-length extent ranks m is = sym (length-map m.entries (λ e. e.row)) ∙ ap (λ (ns : List ℕ). length ns) is.indices ∙ length-range_with_len 0 extent

pub seating-rows : (extent ranks : ℕ) (m : Matrix) → IsSeating extent ranks m → map (λ e. e.row) m.entries ≡ range_with_len 0 (length m.entries)
seating-rows extent ranks m is = is.indices ∙ ap (range_with_len 0) (sym (seating-length extent ranks m is))

-- of the first k elements at most all pass
pub most : {X : Type 0} (p : X → Bool) (k : ℕ) (xs : List X) → length (filter p (take k xs)) ≤ length xs
most p k xs = omega (arith, length-filter_both p (λ x. not (p x)) (λ x. refl) (take k xs), length-take k xs)
