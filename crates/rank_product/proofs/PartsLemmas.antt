-- The parts of all arrays that a rank has are those of the run.
use Rattle.std.proofs.Common.{◌≡◌, ℕ, zero, suc, ◌+◌, ◌*◌, ◌/◌, ◌%◌, ◌^◌, ◌<◌, ◌≤◌, Bool, true, false, cond, ◌==◌, List, [], ◌∷◌, Some, length, map, filter, get_or, slice_get, refl, sym, ap, ◌∙◌, subst, inl, inr, arith}
use Rattle.std.specs.Prelude.{if◌then◌else◌, slice_index}
use Rattle.std.specs.List.{All, sum_by}
use Rattle.std.proofs.Math.Nat.{add-zero, zero-add, mul-zero, mul-one, mul_comm, div-one, mod-one, mod-lt, div-lt_iff_lt-mul}
use Rattle.std.proofs.lemmas.Bool.{cases_eq, eq-eqb, ne_eqb, eqb-true, false≢true}
use Rattle.std.proofs.lemmas.Grind.{same_number_lists}
use Rattle.std.proofs.lemmas.List.{get_or-map, length-map}
use Rattle.std.proofs.lemmas.List.FromFn.{length-map-range_with_len, get_or-map-range_with_len}
use Rattle.std.proofs.lemmas.List.Sums.{sum_by-cons}
use Rattle.std.proofs.lemmas.Nat.{div-add-mod', mul-add-lt, same_from_place}
use Rattle.std.proofs.lemmas.Option.{slice_get_within, get_or_from_slice_get}
use Rattle.bern_base.specs.declared.axes.Axis.TheVariants.{Row}
use Rattle.bern_base.specs.declared.matrix.Entry.{Entry}
use Rattle.bern_base.specs.declared.matrix.Matrix.{Matrix}
use Rattle.bern_base.specs.Matrix.{element, matrix_values, number, values_of, IsInside, IsMatrix}
use Rattle.job_model.specs.State.{values_in, read}
use Rattle.bern_base.proofs.SumLemmas.{sum_by-map, sum_by_agree}
use Rattle.bern_base.proofs.ValuesLemmas.{get_or-matrix_values}
use Rattle.placement.specs.declared.part.Part.{Part}
use Rattle.placement.specs.Placement.{Triple, IsPlacement, owner_of, local_of, owned_indices, owned_of, global_of}
use Rattle.placement.specs.PlacementLaws.{global-below, owner-global, local-global, global-owner-local}
use Rattle.placement.specs.Part.{is_owned, localized, part_of}
use Rattle.placement.proofs.IndexLemmas.{length-owned_indices, get_or-owned_indices}
use Rattle.placement.proofs.PartLemmas.{sized-IsMatrix}
use Rattle.rank_model.specs.Products.{part_values}
use Rattle.rank_node.specs.Jobs.{ArePartsOf}
use Rattle.rank_product.specs.declared.shape.ProductShape.{ProductShape}
use Rattle.rank_product.specs.Runs.{first_state, entries_of, cols_of, block_place, owned_element, owned_elements, run_of, parts_at}
use Rattle.rank_product.proofs.ListLemmas.{all_at, map_at}
use Rattle.rank_product.proofs.PlaceLemmas.{place_is, length-block_place}

-- a sum over what passes a test
sum_by-head : {X : Type 0} (p : X → Bool) (f : X → ℕ) (x : X) (xs : List X) → sum_by f (filter p (x ∷ xs)) ≡ (if p x then f x else 0) + sum_by f (filter p xs)
sum_by-head p f x xs =
    elim (p x) as (λ b. sum_by f (cond b (x ∷ filter p xs) (filter p xs)) ≡ cond b (f x) 0 + sum_by f (filter p xs)) [
      | true ↦ sum_by-cons f x (filter p xs)
      | false ↦ sym (zero-add (sum_by f (filter p xs)))
    ]

sum_by-filter : {X : Type 0} (p : X → Bool) (f : X → ℕ) (xs : List X) → sum_by f (filter p xs) ≡ sum_by (λ x. if p x then f x else 0) xs
sum_by-filter p f [] = refl
sum_by-filter p f (x ∷ xs) =
    sum_by-head p f x xs ∙ ap (λ s. (if p x then f x else 0) + s) (sum_by-filter p f xs) ∙ sym (sum_by-cons (λ y. if p y then f y else 0) x xs)

-- a number under two tests, and under one
both_pass : (a b c : Bool) (v : ℕ) → a ≡ true → b ≡ true → c ≡ true → (if a then (if b then v else 0) else 0) ≡ (if c then v else 0)
both_pass true true true v first second third = refl
both_pass true true false v first second third = absurd (false≢true third)
both_pass true false c v first second third = absurd (false≢true second)
both_pass false b c v first second third = absurd (false≢true first)

one_fails : (a b c : Bool) (v : ℕ) → (a ≡ true → b ≡ true → ⊥) → c ≡ false → (if a then (if b then v else 0) else 0) ≡ (if c then v else 0)
one_fails a b true v apart third = absurd (false≢true (sym third))
one_fails true true false v apart third = absurd (apart refl refl)
one_fails true false false v apart third = refl
one_fails false b false v apart third = refl

-- what an entry adds to an element in the part of its owner, it adds to the element that this stands for
term_agrees : (ranks cols : ℕ) (ts : List Triple) (p a c l : ℕ) → IsPlacement ranks ts → a < owned_of ts p → c < cols → l ≡ a * cols + c → (e : Entry) → IsInside (length ts) cols e →
    (if owner_of ts e.row == p then (if number cols (localized Row ts e) == l then e.value else 0) else 0) ≡ (if number cols e == global_of ts p a * cols + c then e.value else 0)
term_agrees ranks cols ts p a c l is below column place e inside =
    let i : ℕ = e.row in
    let g : ℕ = global_of ts p a in
    let here : i ≡ g → e.col ≡ c → (if owner_of ts i == p then (if local_of ts i * cols + e.col == l then e.value else 0) else 0) ≡ (if i * cols + e.col == g * cols + c then e.value else 0) = λ row col.
    both_pass (owner_of ts i == p) (local_of ts i * cols + e.col == l) (i * cols + e.col == g * cols + c) e.value
    (eq-eqb (owner_of ts i) p (ap (owner_of ts) row ∙ owner-global is p a below))
    (eq-eqb (local_of ts i * cols + e.col) l (ap (λ x. local_of ts x * cols + e.col) row ∙ ap (λ x. x * cols + e.col) (local-global is p a below) ∙ ap (λ x. a * cols + x) col ∙ sym place))
    (eq-eqb (i * cols + e.col) (g * cols + c) (ap (λ x. x * cols + e.col) row ∙ ap (λ x. g * cols + x) col)) in
    let away : (i ≡ g → e.col ≡ c → ⊥) → (if owner_of ts i == p then (if local_of ts i * cols + e.col == l then e.value else 0) else 0) ≡ (if i * cols + e.col == g * cols + c then e.value else 0) = λ differ.
    one_fails (owner_of ts i == p) (local_of ts i * cols + e.col == l) (i * cols + e.col == g * cols + c) e.value
    (λ first second.
    let owner : owner_of ts i ≡ p = eqb-true (owner_of ts i) p first in
    let local = same_from_place (local_of ts i) e.col a c cols inside.1 column (eqb-true (local_of ts i * cols + e.col) l second ∙ place) in
    differ (sym (global-owner-local is i inside.0) ∙ ap (λ q. global_of ts q (local_of ts i)) owner ∙ ap (global_of ts p) local.0) local.1)
    (ne_eqb (i * cols + e.col) (g * cols + c) (λ same. let both = same_from_place i e.col g c cols inside.1 column same in differ both.0 both.1)) in
    elim (cases_eq i g) [
      | inl row ↦ elim (cases_eq e.col c) [
        | inl col ↦ here row col
        | inr apart ↦ away (λ same col. apart col)
      ]
      | inr apart ↦ away (λ row col. apart row)
    ]

-- the elements of a part
part_element : (ranks cols : ℕ) (ts : List Triple) (p l : ℕ) (es : List Entry) → IsPlacement ranks ts → 0 < cols → l / cols < owned_of ts p → All (IsInside (length ts) cols) es →
    element cols (map (localized Row ts) (filter (is_owned Row ts p) es)) l ≡ element cols es (owned_element cols ts p l)
part_element ranks cols ts p l es is some below inside =
    let there : Entry → ℕ = λ e. if number cols e == l then e.value else 0 in
    let own : List Entry = filter (is_owned Row ts p) es in
    let term : Entry → ℕ = λ e. if owner_of ts e.row == p then (if number cols (localized Row ts e) == l then e.value else 0) else 0 in
    ap (λ s. s % 2 ^ 64)
    (sum_by-map there (localized Row ts) own
    ∙ sum_by-filter (is_owned Row ts p) (λ e. there (localized Row ts e)) es
    ∙ sum_by_agree term (λ e. if number cols e == owned_element cols ts p l then e.value else 0) es
    (λ k d under. term_agrees ranks cols ts p (l / cols) (l % cols) l is below (mod-lt l some) (sym (div-add-mod' l cols)) (get_or es k d) (inside k d under)))

some_cols : (owned cols k : ℕ) → k < owned * cols → 0 < cols
some_cols owned zero k below = absurd (let none : owned * 0 ≡ 0 = mul-zero owned in omega (arith, below, none))
some_cols owned (suc c) k below = omega arith

length-owned_elements : (cols : ℕ) (ts : List Triple) (p : ℕ) → length (owned_elements cols ts p) ≡ owned_of ts p * cols
length-owned_elements cols ts p = length-map-range_with_len (owned_element cols ts p) 0 (owned_of ts p * cols)

get_or-owned_elements : (cols : ℕ) (ts : List Triple) (p l : ℕ) → l < owned_of ts p * cols → get_or (owned_elements cols ts p) l 0 ≡ owned_element cols ts p l
get_or-owned_elements cols ts p l below = get_or-map-range_with_len (owned_element cols ts p) 0 (owned_of ts p * cols) l l 0 below (zero-add l)

-- the values of a part are those of the elements in the rows that the rank owns
pub part-values : (ranks cols : ℕ) (ts : List Triple) (p n : ℕ) (es : List Entry) → IsPlacement ranks ts → n ≡ length ts → All (IsInside n cols) es →
    matrix_values (owned_of ts p) cols (map (localized Row ts) (filter (is_owned Row ts p) es)) ≡ map (slice_index (matrix_values n cols es)) (owned_elements cols ts p)
part-values ranks cols ts p n es is long inside =
    let own : List Entry = map (localized Row ts) (filter (is_owned Row ts p) es) in
    let owned : ℕ = owned_of ts p in
    let f : ℕ → ℕ = slice_index (matrix_values n cols es) in
    let tall : length (matrix_values owned cols own) ≡ owned * cols = length-map-range_with_len (element cols own) 0 (owned * cols) in
    let wide : length (owned_elements cols ts p) ≡ owned * cols = length-owned_elements cols ts p in
    same_number_lists (matrix_values owned cols own) (map f (owned_elements cols ts p)) (tall ∙ sym (length-map (owned_elements cols ts p) f ∙ wide)) (λ k within.
    let below : k < owned * cols = subst (λ m. k < m) tall within in
    let some : 0 < cols = some_cols owned cols k below in
    let row : k / cols < owned = (div-lt_iff_lt-mul some).1 below in
    let global : global_of ts p (k / cols) < n = subst (λ m. global_of ts p (k / cols) < m) (sym long) (global-below is p (k / cols) row) in
    let place : owned_element cols ts p k < n * cols = subst (λ m. owned_element cols ts p k < m) (mul_comm cols n) (mul-add-lt (global_of ts p (k / cols)) cols (k % cols) n global (mod-lt k some)) in
    get_or-matrix_values owned cols own k below
    ∙ part_element ranks cols ts p k es is some row (subst (λ m. All (IsInside m cols) es) long inside)
    ∙ sym (get_or-matrix_values n cols es (owned_element cols ts p k) place)
    ∙ ap f (sym (get_or-owned_elements cols ts p k below))
    ∙ sym (get_or-map f (owned_elements cols ts p) k 0 0 (subst (λ m. k < m) (sym wide) below)))

-- of a vector they are the rows
pub owned_elements-one : (ts : List Triple) (p : ℕ) → owned_elements 1 ts p ≡ owned_indices ts p
owned_elements-one ts p =
    let tall : length (owned_elements 1 ts p) ≡ owned_of ts p = length-owned_elements 1 ts p ∙ mul-one (owned_of ts p) in
    same_number_lists (owned_elements 1 ts p) (owned_indices ts p) (tall ∙ sym (length-owned_indices ts p)) (λ k within.
    get_or-owned_elements 1 ts p k (subst (λ m. k < m) (length-owned_elements 1 ts p) within)
    ∙ ap (λ q. global_of ts p q * 1 + k % 1) (div-one k)
    ∙ ap (λ r. global_of ts p k * 1 + r) (mod-one k)
    ∙ add-zero (global_of ts p k * 1)
    ∙ mul-one (global_of ts p k)
    ∙ sym (get_or-owned_indices ts p k))

-- the entries of a part lie inside
part-inside : (ranks : ℕ) (ts : List Triple) (p : ℕ) (m : Matrix) → IsPlacement ranks ts → IsMatrix m → m.rows ≡ length ts → All (IsInside (owned_of ts p) m.cols) (part_of Row ts p m).matrix.entries
part-inside ranks ts p m is good long =
    (sized-IsMatrix ranks ts Row p m (part_of Row ts p m).matrix (owned_of ts p) (part_of Row ts p m).matrix.entries m.entries is good long refl refl refl refl).inside

abbrev pub PartIsInside : Part → Type 0
PartIsInside part = All (IsInside part.matrix.rows part.matrix.cols) part.matrix.entries

abbrev pub HasValues : List ℕ → Part → Type 0
HasValues values part = matrix_values part.matrix.rows part.matrix.cols part.matrix.entries ≡ values

-- the values of an array in the first state
pub first_at : (ms : List Matrix) (k : ℕ) (m : Matrix) → slice_get ms k ≡ Some m → values_in (first_state ms) k ≡ values_of m
first_at ms k m at = get_or-map values_of ms k m [] (slice_get_within ms k m at) ∙ ap values_of (get_or_from_slice_get ms k m m at)

part_with : (whole : ℕ → Bool) (p : ProductShape) (ranks rank array : ℕ) (ms : List Matrix) (m : Matrix) → 1 ≤ p.size → 1 ≤ ranks → slice_get ms array ≡ Some m → IsMatrix m → m.rows ≡ p.size →
    HasValues (part_values (run_of whole p ranks ms) (first_state ms) array rank) (part_of Row (block_place p.size ranks) rank m)
part_with whole p ranks rank array ms m some some_rank there good long =
    let ts : List Triple = block_place p.size ranks in
    part-values ranks m.cols ts rank m.rows m.entries (place_is p.size ranks some some_rank) (long ∙ sym (length-block_place p.size ranks)) good.inside
    ∙ ap (λ values. map (slice_index values) (owned_elements m.cols ts rank)) (sym (first_at ms array m there))
    ∙ ap (λ found. map (read (first_state ms) array) (owned_elements (cols_of found) ts rank)) (sym there)

pub parts-are : (whole : ℕ → Bool) (p : ProductShape) (ranks rank : ℕ) (ms : List Matrix) → 1 ≤ p.size → 1 ≤ ranks → All IsMatrix ms → All (λ (m : Matrix). m.rows ≡ p.size) ms → p.stored < length ms →
    (parts : List Part) → parts ≡ parts_at (block_place p.size ranks) rank ms → ArePartsOf (run_of whole p ranks ms) rank parts
parts-are whole p ranks rank ms some some_rank good rows within parts same =
    let ts : List Triple = block_place p.size ranks in
    let f : Matrix → Part = part_of Row ts rank in
    let placed : IsPlacement ranks ts = place_is p.size ranks some some_rank in
    let long : length (map f ms) ≡ length ms = length-map ms f in
    subst (ArePartsOf (run_of whole p ranks ms) rank) (sym same) (record {
      long = long ∙ sym (length-map ms values_of);
      inside = λ array part at is.
          let from = map_at f ms array part at in
          subst PartIsInside (sym from.is) (part-inside ranks ts rank from.of placed (all_at IsMatrix ms array from.of good from.there)
          (all_at (λ (m : Matrix). m.rows ≡ p.size) ms array from.of rows from.there ∙ sym (length-block_place p.size ranks)));
      whole = λ array part at is.
          let from = map_at f ms array part at in
          subst (HasValues (part_values (run_of whole p ranks ms) (first_state ms) array rank)) (sym from.is)
          (part_with whole p ranks rank array ms from.of some some_rank from.there (all_at IsMatrix ms array from.of good from.there) (all_at (λ (m : Matrix). m.rows ≡ p.size) ms array from.of rows from.there));
      stored = subst (λ n. p.stored < n) (sym long) within;
      entries = λ part at.
          let from = map_at f ms p.stored part at in
          ap (λ (q : Part). q.matrix.entries) from.is ∙ ap (λ found. map (localized Row ts) (filter (is_owned Row ts rank) (entries_of found))) (sym from.there);
    })
