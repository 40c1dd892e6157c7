-- A turn on one rank: that it can be made, and what it leaves.
use Rattle.std.proofs.Common.{◌≡◌, ◌∙◌, ℕ, zero, suc, ◌+◌, ◌*◌, ◌%◌, ◌<◌, ◌^◌, Bool, true, false, List, [], ◌∷◌, Option, Some, None, map, length, get_or, refl, sym, ap, subst, ⊎_elim, arith}
use Rattle.std.specs.Prelude.{replicate, slice_get, slice_index, slice_set}
use Rattle.std.specs.List.{All, Contains, range_with_len, sum_by}
use Rattle.std.proofs.Math.Nat.{mod-mod}
use Rattle.std.proofs.lemmas.Bool.{cases_lt}
use Rattle.std.proofs.lemmas.List.{ext_get_or, get_or-map, get_or-replicate, get_or_default, get_or_past, length-map, length-replicate}
use Rattle.std.proofs.lemmas.List.FromFn.{length-map-range_with_len, length-range_with_len}
use Rattle.bern_base.specs.Matrix.{element, values_of}
use Rattle.bern_base.specs.Ring.{ring_add}
use Rattle.bern_base.specs.Shapes.{is_all_dense}
use Rattle.bern_base.specs.declared.job.ArrayDecl.{ArrayDecl}
use Rattle.bern_base.specs.declared.job.Checked.{Checked}
use Rattle.bern_base.specs.declared.job.Nest.{Nest}
use Rattle.bern_base.specs.declared.matrix.Matrix.{Matrix}
use Rattle.bern_base.specs.declared.shape.Shape.{Shape}
use Rattle.bern_base.specs.declared.shape.Shape.TheVariants as shape
use Rattle.format_model.specs.Grids.{Grid, value_of_element}
use Rattle.format_model.specs.Stored.{element_at, stored_elements}
use Rattle.formats.specs.AnyStores.{any_grid, any_tree}
use Rattle.formats.specs.Builds.{part_grid}
use Rattle.formats.specs.declared.any_store.AnyStore.{AnyStore}
use Rattle.job_model.specs.Accepted.{IsNestOf}
use Rattle.job_model.specs.Nests.{after_nest}
use Rattle.job_model.specs.Points.{points}
use Rattle.job_model.specs.State.{State, read, values_in}
use Rattle.loop_query.proofs.ZeroLemmas.{nest_keeps}
use Rattle.nest_laws.specs.NestLaws.{LeavesSums}
use Rattle.nest_laws.proofs.NestLemmas.{nests-leave_sums}
use Rattle.pass_model.specs.Local.{local_element, own_size}
use Rattle.pass_model.specs.Sums.{PassesSum, applied, body_sum, home_points, interior_sum, is_written}
use Rattle.placement.specs.AnyPlaces.{any_ranks, any_triples}
use Rattle.placement.specs.Placement.{Triple}
use Rattle.placement.specs.declared.any_place.AnyPlace.{AnyPlace}
use Rattle.split_exec.specs.Applying.{HasSize, with_values}
use Rattle.split_exec.specs.Settings.{IsAtRank}
use Rattle.term_model.specs.declared.plan.PlannedTerm.{PlannedTerm}
use Rattle.term_model.specs.declared.term.Term.{Term}
use Rattle.term_model.specs.Activity.{Entries}
use Rattle.term_model.specs.Terms.{terms_of}
use Rattle.whole_laws.specs.HeldLaws.{HasNewValues}
use Rattle.whole_laws.proofs.AloneLemmas.{one-rank-is_alone}
use Rattle.whole_laws.proofs.ChangeLemmas.{any_cells, changed-states-are_held}
use Rattle.whole_turns.specs.Turns.{CanTurn, HasTarget, IsHeld, IsPlannedNest, IsTurned, TurnsAreHeld, TurnsCanBeMade, setting_of}
use Rattle.whole_turns.proofs.PlaceLemmas.{element_is, own_is, owns_all, placed, size_is, some_same}
use Rattle.whole_turns.proofs.ShowLemmas.{StoreAt, cell, have_parts, shows, store_at, whole_is}

-- ---- lists

contains_all : {X : Type 0} (P : X → Type 0) (xs : List X) (x : X) → All P xs → Contains xs x → P x
contains_all P xs x all has = subst P has.2 (all has.0 x has.1)

pub map_has : {X Y : Type 0} (f : X → Y) (xs : List X) (k : ℕ) (d : X) → k < length xs → Contains (map f xs) (f (get_or xs k d))
map_has f xs k d low =
    (k, subst (λ n. k < n) (sym (length-map xs f)) low, get_or-map f xs k (get_or xs k d) (f (get_or xs k d)) low ∙ ap f (sym (get_or_default xs k d (get_or xs k d) low)))

zero_at : (count n : ℕ) → slice_index (replicate count 0) n ≡ 0
zero_at count n = ⊎_elim (λ inside. get_or-replicate count n 0 0 inside) (λ past. get_or_past (replicate count 0) n 0 (omega (arith, length-replicate {A = ℕ} count 0, past))) (cases_lt n count)

-- ---- formats that are stored whole

pub dense_count : (s : Shape) (globals : List ℕ) (m : Matrix) → is_all_dense s ≡ true → length (stored_elements s globals m) ≡ m.rows * m.cols
dense_count shape.DenseOne globals m whole = length-map-range_with_len (element_at m) 0 (m.rows * m.cols)
dense_count (shape.DenseDense outer) globals m whole = length-map-range_with_len (element_at m) 0 (m.rows * m.cols)
dense_count shape.PackedOne globals m whole = absurd cc
dense_count shape.ListOne globals m whole = absurd cc
dense_count (shape.DensePacked outer) globals m whole = absurd cc
dense_count (shape.PackedPacked outer) globals m whole = absurd cc
dense_count shape.ListTwo globals m whole = absurd cc
dense_count shape.Jagged globals m whole = absurd cc
dense_count (shape.Diagonal offsets) globals m whole = absurd cc
dense_count (shape.Permute file) globals m whole = absurd cc

-- the elements of a part that is stored whole
record HasGrid (m : Matrix) (g : Option Grid) : Type 0 where
  grid : Grid
  is : g ≡ Some grid
  size : length grid.values ≡ m.rows * m.cols
  cells : length grid.rows * length grid.cols ≡ m.rows * m.cols

dense_cells : (m : Matrix) → length (range_with_len 0 m.rows) * length (range_with_len 0 m.cols) ≡ m.rows * m.cols
dense_cells m = ap (λ r. r * length (range_with_len 0 m.cols)) (length-range_with_len 0 m.rows) ∙ ap (λ c. m.rows * c) (length-range_with_len 0 m.cols)

dense_grid : (s : Shape) (m : Matrix) → is_all_dense s ≡ true → HasGrid m (part_grid s m)
dense_grid shape.DenseOne m whole = record { grid = _; is = refl; size = length-map-range_with_len (element m.cols m.entries) 0 (m.rows * m.cols); cells = dense_cells m }
dense_grid (shape.DenseDense outer) m whole = record { grid = _; is = refl; size = length-map-range_with_len (element m.cols m.entries) 0 (m.rows * m.cols); cells = dense_cells m }
dense_grid shape.PackedOne m whole = absurd cc
dense_grid shape.ListOne m whole = absurd cc
dense_grid (shape.DensePacked outer) m whole = absurd cc
dense_grid (shape.PackedPacked outer) m whole = absurd cc
dense_grid shape.ListTwo m whole = absurd cc
dense_grid shape.Jagged m whole = absurd cc
dense_grid (shape.Diagonal offsets) m whole = absurd cc
dense_grid (shape.Permute file) m whole = absurd cc

-- ---- a turn

module _ (job : Checked) (entries : Entries) (state : State) (places : List AnyPlace) (stores : List AnyStore) (nest : Nest) (planned : List PlannedTerm) (h : IsHeld job entries state places stores) (p : IsPlannedNest job nest planned) where
  abbrev triples : List (List Triple)
  triples = map any_triples places

  abbrev t : ℕ
  t = nest.target.array

  of_job : IsNestOf job nest
  of_job = contains_all (IsNestOf job) job.nests nest h.accepted.nests p.nest_is

  abbrev array : ArrayDecl
  array = of_job.target.array

  array_is : slice_get job.arrays t ≡ Some array
  array_is = of_job.target.element.named

  s : StoreAt job entries state places stores h t array
  s = store_at job entries state places stores h t array array_is

  dense : is_all_dense s.holds.format.shape ≡ true
  unfolding s
  dense = whole_is job entries state places stores h t array s of_job.target.whole

  at_rank : IsAtRank job triples (map any_ranks places) 0
  at_rank = record { accepted = h.accepted; placed = placed job places h.accepted h.placed; small = h.small }

  area : s.holds.matrix.rows * s.holds.matrix.cols ≡ array.rows * array.cols
  area = ap (λ r. r * s.holds.matrix.cols) (s.holds.rows ∙ ap (λ (a : ArrayDecl). a.rows) s.array_same) ∙ ap (λ c. array.rows * c) (s.holds.cols ∙ ap (λ (a : ArrayDecl). a.cols) s.array_same)

  g : HasGrid s.holds.matrix (part_grid s.holds.format.shape s.holds.matrix)
  g = dense_grid s.holds.format.shape s.holds.matrix dense

  own : own_size triples array 0 ≡ array.rows * array.cols
  own = size_is job places h.accepted h.placed t array array_is

  old_grid : any_grid s.store ≡ Some g.grid
  old_grid = s.holds.grid ∙ g.is

  target : HasTarget job places nest stores
  target = record {
    array = array;
    store = s.store;
    array_is = array_is;
    store_is = s.at;
    few = omega (arith, s.holds.can.few, area, dense_count s.holds.format.shape (range_with_len 0 s.holds.matrix.rows) s.holds.matrix dense);
    sums = λ other is. sym own ∙ ap (λ a. own_size triples a 0) (some_same (slice_get job.arrays t) array other array_is is);
    apply = record {
      at = at_rank;
      nest_is = p.nest_is;
      count = λ other is. sym own ∙ ap (λ a. own_size triples a 0) (some_same (slice_get job.arrays t) array other array_is is);
      elements = λ other is.
          subst (λ o. HasSize o (own_size triples other 0)) (sym old_grid)
          (g.size ∙ area ∙ sym own ∙ ap (λ a. own_size triples a 0) (some_same (slice_get job.arrays t) array other array_is is));
    };
  }

  term_there : (k : ℕ) (d : PlannedTerm) → k < length planned → Contains (terms_of job nest.body) (get_or planned k d).term
  term_there k d low = subst (λ ts. Contains ts (get_or planned k d).term) p.plans.terms (map_has (λ (q : PlannedTerm). q.term) planned k d low)

  can_turn : CanTurn job places nest planned stores
  can_turn = record {
    pass = record {
      at = at_rank;
      nest_is = p.nest_is;
      some = p.some;
      plans = λ k d low. record { accepted = h.accepted; nest_is = p.nest_is; term_is = term_there k d low; plan_is = p.plans.plans k d low };
      entries = entries;
      parts = have_parts job entries state places stores h nest;
    };
    target = target;
  }

  module _ (sums_law : PassesSum) (count : ℕ) (sums : List ℕ) (old new : AnyStore) (turned : IsTurned job places nest planned stores count sums old new) where
    abbrev after : State
    after = after_nest job.arrays state nest

    leaves : LeavesSums job nest state after
    leaves = nests-leave_sums job nest state of_job h.kept

    same_store : s.store ≡ old
    same_store = some_same (slice_get stores t) s.store old s.at turned.old_is

    had : any_grid old ≡ Some g.grid
    had = ap any_grid (sym same_store) ∙ old_grid

    abbrev values : List ℕ
    values = turned.applied.values

    has : any_grid new ≡ Some (record g.grid { values = values })
    has = turned.applied.alike ∙ ap (λ o. with_values o values) had

    long : length values ≡ array.rows * array.cols
    long = any_cells new (record g.grid { values = values }) has ∙ g.cells ∙ area

    wide : length (values_in state t) ≡ array.rows * array.cols
    wide = h.kept.sizes t array array_is

    -- each sum is what the body adds
    sum_is : (k : ℕ) → k < array.rows * array.cols → slice_index sums k ≡ body_sum job state nest k (points nest)
    sum_is k low =
        let place : local_element triples array 0 k ≡ k = element_is job places h.accepted h.placed t array k array_is low in
        let inner : ℕ = interior_sum job entries triples state nest 0 k (terms_of job nest.body) in
        let whole : inner ≡ body_sum job state nest k (points nest) =
        (one-rank-is_alone job entries triples nest (owns_all job places h.accepted h.placed)).sum sums_law state k h.zeros in
        ap (slice_index sums) (sym place)
        ∙ turned.added entries state (shows job entries state places stores h nest) array array_is k (own_is job places h.accepted h.placed array k low)
        ∙ ap (λ ts. ring_add (slice_index (replicate count 0) (local_element triples array 0 k)) (interior_sum job entries triples state nest 0 k ts)) p.plans.terms
        ∙ ap (λ z. ring_add z inner) (zero_at count (local_element triples array 0 k))
        ∙ ap (λ n. n % 2 ^ 64) (omega arith) ∙ ap (λ n. n % 2 ^ 64) whole ∙ mod-mod _ (2 ^ 64)

    value_is : (k : ℕ) → k < array.rows * array.cols → slice_index values k ≡ read after t k
    value_is k low =
        let place : local_element triples array 0 k ≡ k = element_is job places h.accepted h.placed t array k array_is low in
        let home : home_points job triples nest 0 ≡ points nest = (one-rank-is_alone job entries triples nest (owns_all job places h.accepted h.placed)).home in
        let before : value_of_element (any_grid old) k ≡ read state t k = ap (λ u. value_of_element (any_grid u) k) (sym same_store) ∙ (cell job entries state places stores h t array s of_job.target.whole k low).value in
        ap (λ o. value_of_element o k) (sym has)
        ∙ ap (value_of_element (any_grid new)) (sym place)
        ∙ turned.applied.elements array array_is k (own_is job places h.accepted h.placed array k low)
        ∙ ap (λ n. applied nest.replace (is_written job nest k (home_points job triples nest 0)) (value_of_element (any_grid old) n) (slice_index sums n)) place
        ∙ ap (λ xs. applied nest.replace (is_written job nest k xs) (value_of_element (any_grid old) k) (slice_index sums k)) home
        ∙ ap (λ v. applied nest.replace (is_written job nest k (points nest)) v (slice_index sums k)) before
        ∙ ap (λ v. applied nest.replace (is_written job nest k (points nest)) (read state t k) v) (sum_is k low)
        ∙ sym (leaves.target k (omega (arith, wide, low)))

    values_are : values ≡ values_in after t
    values_are = ext_get_or 0 values (values_in after t) (long ∙ sym (leaves.state.sizes t array array_is)) (λ k low. value_is k (omega (arith, low, long)))

    new_values : HasNewValues old new (values_in after t)
    new_values = record {
      grid = g.grid;
      had = had;
      has = has ∙ ap (λ vs. Some (record g.grid { values = vs })) values_are;
      small = λ k d low. subst (λ v. v < 2 ^ 64) (get_or_default (values_in after t) k 0 d low) (leaves.state.small t k);
    }

    turned_held : IsHeld job entries after places (slice_set stores t new)
    turned_held = record {
      accepted = h.accepted;
      small = h.small;
      placed = h.placed;
      kept = leaves.state;
      zeros = nest_keeps job entries nest of_job state h.zeros;
      holds = changed-states-are_held job entries state after t old new stores h.holds (record { store_is = turned.old_is; values = new_values; others = leaves.others });
    }

pub turns-can-be_made : TurnsCanBeMade
turns-can-be_made job entries state places stores nest planned h p = can_turn job entries state places stores nest planned h p

pub turns-are_held : TurnsAreHeld
turns-are_held law job entries state places stores nest planned count sums old new h p turned = turned_held job entries state places stores nest planned h p law count sums old new turned
