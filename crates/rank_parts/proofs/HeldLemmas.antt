-- The views of a rank's parts hold the first state.
use Rattle.std.proofs.Common.{◌≡◌, ℕ, ◌+◌, ◌*◌, ◌/◌, ◌%◌, ◌^◌, ◌<◌, ◌≤◌, Bool, true, false, ◌&&◌, List, [], Option, Some, None, length, map, get_or, slice_get, refl, sym, ap, ◌∙◌, subst, arith, zero-add}
use Rattle.std.specs.Prelude.{slice_index, slice_index_or}
use Rattle.std.specs.List.{All}
use Rattle.std.proofs.Math.Nat.{div-add-mod', mod-lt}
use Rattle.std.proofs.lemmas.List.Elements.{All-weaker}
use Rattle.std.proofs.lemmas.List.FromFn.{get_or-map-range_with_len, length-map-range_with_len}
use Rattle.std.proofs.lemmas.Nat.{div_below, mul-add-lt}
use Rattle.bern_base.specs.Matrix.{IsInside, IsMatrix, element, values_of}
use Rattle.bern_base.specs.Shapes.{is_all_dense}
use Rattle.bern_base.specs.declared.axes.Axis.{Axis}
use Rattle.bern_base.specs.declared.axes.Axis.TheVariants as axis
use Rattle.bern_base.specs.declared.job.ArrayDecl.{ArrayDecl}
use Rattle.bern_base.specs.declared.job.Checked.{Checked}
use Rattle.bern_base.specs.declared.job.FormatDecl.{FormatDecl}
use Rattle.bern_base.specs.declared.matrix.Entry.{Entry}
use Rattle.bern_base.specs.declared.matrix.Matrix.{Matrix}
use Rattle.bern_base.specs.declared.shape.Shape.{Shape}
use Rattle.bern_base.specs.declared.shape.Shape.TheVariants as shape
use Rattle.formats.specs.AnyStores.{any_grid, any_is_tree, any_tree}
use Rattle.formats.specs.Builds.{part_grid}
use Rattle.formats.specs.declared.any_store.AnyStore.{AnyStore}
use Rattle.formats.proofs.AdmittedLemmas.{sizes_of}
use Rattle.formats.proofs.ReachLemmas.{any_reached}
use Rattle.format_model.specs.Checks.{astray_rule}
use Rattle.format_model.specs.Grids.{Grid, HasElement, value_of_element}
use Rattle.format_model.specs.Laws.{IsSide}
use Rattle.format_model.specs.Stored.{stands_at}
use Rattle.format_model.specs.Trees.{Tree}
use Rattle.job_model.specs.Accepted.{is_col}
use Rattle.job_model.specs.Runnable.{is_dense, is_dense_format}
use Rattle.job_model.specs.State.{State, read}
use Rattle.local_views.specs.Views.{own_cols}
use Rattle.node_prog.proofs.HomeLemmas.{item}
use Rattle.part_turns.specs.HeldParts.{AreHeldAt, HoldsDense, HoldsSparse, grid_at, tree_at}
use Rattle.pass_model.specs.Local.{IsOwn, local_at, local_element, own_size}
use Rattle.placement.specs.AnyPlaces.{any_ranks, any_triples}
use Rattle.placement.specs.Part.{extent_on, is_owned, localized, part_of}
use Rattle.placement.specs.Placement.{IsPlacement, Triple, owned_of}
use Rattle.placement.specs.declared.any_place.AnyPlace.{AnyPlace}
use Rattle.placement.specs.declared.part.Part.{Part}
use Rattle.placement.proofs.PartLemmas.{part-IsMatrix}
use Rattle.split_exec.specs.Applying.{HasSize}
use Rattle.split_exec.specs.Settings.{IsAtRank}
use Rattle.stores_flat.specs.Dense.{grid_of}
use Rattle.term_model.specs.Activity.{Entries, entries_of}
use Rattle.term_model.specs.Answers.{Places, owner_in}
use Rattle.view_laws.specs.PartViews.{triples_of}
use Rattle.visits.specs.Ways.{no_tree}
use Rattle.view_laws.specs.SetViews.{viewed}
use Rattle.view_laws.proofs.LocalLemmas.{IsAt, IsOwned, is_at, local_col, local_row, own_rows, split_index, split_owned}
use Rattle.view_laws.proofs.SetLemmas.{any_seen}
use Rattle.view_laws.proofs.StoredLemmas.{entry_told}
use Rattle.view_laws.proofs.ValueLemmas.{element_same}
use Rattle.whole_laws.proofs.ChangeLemmas.{some_cols}
use Rattle.whole_laws.proofs.ZeroLemmas.{wholes-hold-zeros}
use Rattle.whole_runs.specs.Engine.{entries_in, first_state}
use Rattle.whole_runs.proofs.ListLemmas.{some_same}
use Rattle.whole_runs.proofs.RunLemmas.{first_kept, small_arrays}
use Rattle.whole_runs.proofs.StoreLemmas.{wholes, zip_long}
use Rattle.job_files.specs.FileOrder.{IsArrayIn}
use Rattle.whole_turns.proofs.PlaceLemmas.{below, some_at}
use Rattle.rank_parts.specs.Dealing.{AreHeldParts, AreRows, CanDeal, IsDealtView, IsRow, IsViewIn, part_at, shown_by}
use Rattle.rank_parts.proofs.DealLemmas.{can_run, extent, placed}
use Rattle.rank_parts.proofs.RowLemmas.{many_same}

-- ---- sizes

module _ (places : Places) (array : ArrayDecl) (rank : ℕ) (m : Matrix) (side : IsSide array.axis) (rows : m.rows ≡ array.rows) (cols : m.cols ≡ array.cols) where
  abbrev ts : List Triple
  ts = triples_of places array

  abbrev part : Matrix
  part = (part_of array.axis ts rank m).matrix

  -- the part has as many elements as the rank owns
  part_size : part.rows * part.cols ≡ own_size places array rank
  part_size = by_axis array.axis side
    where
      by_axis : (a : Axis) → IsSide a → (part_of a ts rank m).matrix.rows * (part_of a ts rank m).matrix.cols ≡ own_size places (record array { axis = a }) rank
      by_axis axis.Row one = ap (λ c. owned_of ts rank * c) cols
      by_axis axis.Col one = ap (λ r. r * owned_of ts rank) rows
      by_axis axis.Both one = absurd (one refl)

  -- an element's number in the part, by its row and column there
  number_in : (row col : ℕ) → local_at ts array rank row col ≡ local_row array.axis ts row * part.cols + local_col array.axis ts col
  number_in row col = by_axis array.axis side
    where
      by_axis : (a : Axis) → IsSide a → local_at ts (record array { axis = a }) rank row col ≡ local_row a ts row * (part_of a ts rank m).matrix.cols + local_col a ts col
      by_axis axis.Row one = ap (λ c. local_row axis.Row ts row * c + local_col axis.Row ts col) (sym cols)
      by_axis axis.Col one = refl
      by_axis axis.Both one = absurd (one refl)

  row_low : (row : ℕ) → local_row array.axis ts row < own_rows array.axis array.rows (owned_of ts rank) → local_row array.axis ts row < part.rows
  row_low row = by_axis array.axis side
    where
      by_axis : (a : Axis) → IsSide a → local_row a ts row < own_rows a array.rows (owned_of ts rank) → local_row a ts row < (part_of a ts rank m).matrix.rows
      by_axis axis.Row one low = low
      by_axis axis.Col one low = subst (λ n. row < n) (sym rows) low
      by_axis axis.Both one low = absurd (one refl)

  col_low : (col : ℕ) → local_col array.axis ts col < own_cols array.axis array.cols (owned_of ts rank) → local_col array.axis ts col < part.cols
  col_low col = by_axis array.axis side
    where
      by_axis : (a : Axis) → IsSide a → local_col a ts col < own_cols a array.cols (owned_of ts rank) → local_col a ts col < (part_of a ts rank m).matrix.cols
      by_axis axis.Row one low = subst (λ n. col < n) (sym cols) low
      by_axis axis.Col one low = low
      by_axis axis.Both one low = absurd (one refl)

-- ---- an element of a part has its value in the array

value_at : (m : Matrix) (n : ℕ) → n < m.rows * m.cols → get_or (values_of m) n 0 ≡ element m.cols m.entries n
value_at m n low = get_or-map-range_with_len (element m.cols m.entries) 0 (m.rows * m.cols) n n 0 low (zero-add n)

module _ (places : Places) (array : ArrayDecl) (ranks rank : ℕ) (m : Matrix) (side : IsSide array.axis) (rows : m.rows ≡ array.rows) (cols : m.cols ≡ array.cols)
    (is : IsMatrix m) (dealt : IsPlacement ranks (triples_of places array)) (extent : extent_on array.axis m.rows m.cols ≡ length (triples_of places array))
    (n : ℕ) (own : IsOwn places array rank n) where
  abbrev dealt_by_rank : Matrix
  dealt_by_rank = (part_of array.axis (triples_of places array) rank m).matrix

  abbrev row : ℕ
  row = n / array.cols

  abbrev col : ℕ
  col = n % array.cols

  wide : 0 < array.cols
  wide = some_cols array.rows array.cols n own.inside

  number : row * array.cols + col ≡ n
  number = div-add-mod' n array.cols

  low : col < array.cols
  low = mod-lt n wide

  high : row < array.rows
  high = div_below n array.cols array.rows wide own.inside

  owned : IsOwned (triples_of places array) rank (split_index array.axis row col)
  owned =
      split_owned array.axis ranks (triples_of places array) rank array.rows array.cols row col side dealt
      (ap (λ r. extent_on array.axis r array.cols) (sym rows) ∙ ap (λ c. extent_on array.axis m.rows c) (sym cols) ∙ extent) high low
      (ap (owner_in places (Some array)) number ∙ own.owner)

  at : IsAt array.axis (triples_of places array) rank array.rows array.cols row col
  at = is_at array.axis (triples_of places array) rank array.rows array.cols row col side high low owned

  abbrev r : ℕ
  r = local_row array.axis (triples_of places array) row

  abbrev c : ℕ
  c = local_col array.axis (triples_of places array) col

  r_low : r < dealt_by_rank.rows
  r_low = row_low places array rank m side rows cols row at.high

  c_low : c < dealt_by_rank.cols
  c_low = col_low places array rank m side rows cols col at.low

  here : local_element places array rank n ≡ r * dealt_by_rank.cols + c
  here = number_in places array rank m side rows cols row col

  pub there_in : local_element places array rank n < dealt_by_rank.rows * dealt_by_rank.cols
  there_in = omega (arith, here, mul-add-lt r dealt_by_rank.cols c dealt_by_rank.rows r_low c_low)

  part_matrix : IsMatrix dealt_by_rank
  part_matrix = part-IsMatrix ranks (triples_of places array) array.axis rank m dealt is extent

  pub value_in : get_or (values_of dealt_by_rank) (local_element places array rank n) 0 ≡ get_or (values_of m) n 0
  value_in =
      value_at dealt_by_rank (local_element places array rank n) there_in
      ∙ ap (element dealt_by_rank.cols dealt_by_rank.entries) here
      ∙ element_same array.axis (triples_of places array) rank m.rows m.cols dealt_by_rank.rows dealt_by_rank.cols m.entries row col r c is.inside part_matrix.inside (omega (arith, low, cols)) c_low
      (All-weaker (IsInside m.rows m.cols) (λ e. (is_owned array.axis (triples_of places array) rank e && stands_at r c (localized array.axis (triples_of places array) e)) ≡ stands_at row col e)
      (entry_told array.axis ranks (triples_of places array) rank m.rows m.cols row col side dealt extent owned) m.entries is.inside)
      ∙ ap (λ w. element m.cols m.entries (row * w + col)) cols ∙ ap (element m.cols m.entries) number
      ∙ sym (value_at m n (subst (λ k. n < k) (ap (λ x. x * array.cols) (sym rows) ∙ ap (λ x. m.rows * x) (sym cols)) own.inside))

-- ---- a view that is kept whole

-- the elements of a store of dense levels
record IsKeptWhole (store : AnyStore) (part : Matrix) : Type 0 where
  pub single : Bool
  pub outer : Axis
  pub kept : any_grid store ≡ Some (grid_of single outer part)

kept_whole : (s : Shape) (store : AnyStore) (part : Matrix) → is_all_dense s ≡ true → any_grid store ≡ part_grid s part → IsKeptWhole store part
kept_whole shape.DenseOne store part whole kept = record { single = true; outer = axis.Row; kept = kept }
kept_whole (shape.DenseDense outer) store part whole kept = record { single = false; outer = outer; kept = kept }
kept_whole shape.PackedOne store part whole kept = absurd cc
kept_whole shape.ListOne store part whole kept = absurd cc
kept_whole (shape.DensePacked outer) store part whole kept = absurd cc
kept_whole (shape.PackedPacked outer) store part whole kept = absurd cc
kept_whole shape.ListTwo store part whole kept = absurd cc
kept_whole shape.Jagged store part whole kept = absurd cc
kept_whole (shape.Diagonal offsets) store part whole kept = absurd cc
kept_whole (shape.Permute file) store part whole kept = absurd cc

module _ (job : Checked) (places : List AnyPlace) (ranks rank number : ℕ) (m : Matrix) (t : Tree) (g : Option Grid) (view : IsDealtView job places ranks rank number m t g) where
  abbrev array : ArrayDecl
  array = view.deals.array

  sizes : (m.rows ≡ array.rows) × (m.cols ≡ array.cols)
  sizes = sizes_of array.rows array.cols m (astray_rule view.deals.format.shape m) view.deals.admitted.checked

  pub holds_dense : (state : State) → is_all_dense view.deals.format.shape ≡ true → ((n : ℕ) → read state number n ≡ get_or (values_of m) n 0) →
      HoldsDense state (map any_triples places) rank number array g
  holds_dense state whole reads =
      let ts : Places = map any_triples places in
      let part : Matrix = (part_at places array rank m).matrix in
      let kept = kept_whole view.deals.format.shape view.store part whole view.kept in
      let seen : g ≡ Some (viewed view.seen (grid_of kept.single kept.outer part)) =
      view.grid ∙ any_seen view.seen view.store kept.single kept.outer part kept.kept in
      let long : length (values_of part) ≡ part.rows * part.cols = length-map-range_with_len (element part.cols part.entries) 0 (part.rows * part.cols) in
      let is = view.deals.admitted.matrix in
      let dealt = placed job places ranks number m view.order view.deals in
      let extent_is = extent job places ranks number m view.order view.deals in record {
        size = subst (λ o. HasSize o (own_size ts array rank)) (sym seen) (long ∙ part_size ts array rank m view.deals.admitted.side sizes.0 sizes.1);
        there = λ n own. subst (λ o. HasElement o (local_element ts array rank n)) (sym seen)
            (omega (arith, long, there_in ts array ranks rank m view.deals.admitted.side sizes.0 sizes.1 is dealt extent_is n own));
        value = λ n own. ap (λ o. value_of_element o (local_element ts array rank n)) seen
            ∙ value_in ts array ranks rank m view.deals.admitted.side sizes.0 sizes.1 is dealt extent_is n own ∙ sym (reads n);
      }

  pub holds_sparse : (entries : Entries) (state : State) → entries_of entries number ≡ m.entries → ((n : ℕ) → read state number n ≡ get_or (values_of m) n 0) →
      HoldsSparse job entries state (map any_triples places) rank number array t
  holds_sparse entries state entries_are reads = record {
    ranks = ranks;
    view = record {
      part = any_tree view.store;
      lawful = any_is_tree view.store;
      reached = any_reached view.store;
      holds = record {
        array = array;
        format = view.deals.format;
        order = view.order;
        matrix = m;
        array_is = view.deals.array_is;
        format_is = view.deals.format_is;
        admitted = view.deals.admitted;
        entries_are = entries_are;
        placed = placed job places ranks number m view.order view.deals;
        extent = ap (λ r. extent_on array.axis r array.cols) (sym sizes.0) ∙ ap (λ c. extent_on array.axis m.rows c) (sym sizes.1) ∙ extent job places ranks number m view.order view.deals;
        described = view.described;
      };
      is = view.tree;
    };
    small = subst (All (λ e. e.value < 2 ^ 64)) (sym entries_are) view.small;
    values = λ n low. reads n ∙ value_at m n (subst (λ k. n < k) (ap (λ x. x * array.cols) (sym sizes.0) ∙ ap (λ x. m.rows * x) (sym sizes.1)) low)
        ∙ ap (λ w. element w m.entries n) sizes.1 ∙ ap (λ es. element array.cols es n) (sym entries_are);
  }

-- ---- all views of a rank

whole_shape : (job : Checked) (one : ArrayDecl) (format : FormatDecl) → slice_get job.formats one.format ≡ Some format → is_dense job.formats one ≡ true → is_all_dense format.shape ≡ true
whole_shape job one format is whole = ap is_dense_format (sym is) ∙ whole

-- the view of an array at a rank
record IsFound {V : Type 0} (tree : V → Tree) (grid : V → Option Grid) (job : Checked) (places : List AnyPlace) (ranks rank : ℕ) (ms : List Matrix) (views : List V) (number : ℕ) (array : ArrayDecl) : Type 0 where
  pub view : V
  pub view_is : slice_get views number ≡ Some view
  pub m : Matrix
  pub m_is : slice_get ms number ≡ Some m
  pub dealt : IsDealtView job places ranks rank number m (tree view) (grid view)
  pub same : dealt.deals.array ≡ array

module _ {V : Type 0} (tree : V → Tree) (grid : V → Option Grid) (job : Checked) (places : List AnyPlace) (ranks : ℕ) (ms : List Matrix) (orders : List (List ℕ)) (rank : ℕ) (views : List V)
    (can : CanDeal job places ranks ms orders) (low : rank < ranks) (row : IsRow (IsViewIn tree grid job places ranks ms rank) (length job.arrays) views) where
  found : (number : ℕ) (one : ArrayDecl) → slice_get job.arrays number ≡ Some one → IsFound tree grid job places ranks rank ms views number one
  found number one at =
      let v = some_at views number (omega (arith, row.long, below job.arrays number one at)) in
      let m = some_at ms number (omega (arith, zip_long (IsArrayIn job.formats) job.arrays ms can.arrays, below job.arrays number one at)) in
      let d = row.each number v.0 v.1 m.0 m.1 in
      record { view = v.0; view_is = v.1; m = m.0; m_is = m.1; dealt = d; same = some_same (sym d.deals.array_is ∙ at) }

  reads : (number : ℕ) (m : Matrix) → slice_get ms number ≡ Some m → (n : ℕ) → read (first_state ms) number n ≡ get_or (values_of m) n 0
  reads number m at n = ap (λ vs. get_or vs n 0) (item values_of ms number m [] at)

  dense_held : (number : ℕ) (one : ArrayDecl) → slice_get job.arrays number ≡ Some one → is_dense job.formats one ≡ true →
      HoldsDense (first_state ms) (map any_triples places) rank number one (grid_at (shown_by tree grid views) number)
  dense_held number one at whole =
      let f = found number one at in
      subst (λ o. HoldsDense (first_state ms) (map any_triples places) rank number one o) (sym (item grid views number f.view None f.view_is))
      (subst (λ a. HoldsDense (first_state ms) (map any_triples places) rank number a (grid f.view)) f.same
      (holds_dense job places ranks rank number f.m (tree f.view) (grid f.view) f.dealt (first_state ms)
      (whole_shape job f.dealt.deals.array f.dealt.deals.format f.dealt.deals.format_is (subst (λ a. is_dense job.formats a ≡ true) (sym f.same) whole)) (reads number f.m f.m_is)))

  sparse_held : (number : ℕ) (one : ArrayDecl) → slice_get job.arrays number ≡ Some one →
      HoldsSparse job (entries_in ms) (first_state ms) (map any_triples places) rank number one (tree_at (shown_by tree grid views) number)
  sparse_held number one at =
      let f = found number one at in
      subst (HoldsSparse job (entries_in ms) (first_state ms) (map any_triples places) rank number one) (sym (item tree views number f.view no_tree f.view_is))
      (subst (λ a. HoldsSparse job (entries_in ms) (first_state ms) (map any_triples places) rank number a (tree f.view)) f.same
      (holds_sparse job places ranks rank number f.m (tree f.view) (grid f.view) f.dealt (entries_in ms) (first_state ms)
      (item (λ (k : Matrix). k.entries) ms number f.m [] f.m_is) (reads number f.m f.m_is)))

  row-is_held : AreHeldAt job (entries_in ms) (first_state ms) (map any_triples places) (map any_ranks places) rank (shown_by tree grid views)
  row-is_held =
      let run = can_run job places ranks ms orders can in record {
        at = record { accepted = can.accepted; placed = can.placed rank low; small = small_arrays job ms orders run };
        kept = first_kept job ms orders run;
        zeros = wholes-hold-zeros job ms (wholes job ms orders run);
        dense = λ number one at whole. dense_held number one at whole;
        sparse = λ number one at sparse. sparse_held number one at;
      }

pub rows-are_held : {V : Type 0} (tree : V → Tree) (grid : V → Option Grid) (job : Checked) (places : List AnyPlace) (ranks : ℕ) (ms : List Matrix) (orders : List (List ℕ)) (rows : List (List V)) →
    CanDeal job places ranks ms orders → AreRows rows (IsViewIn tree grid job places ranks ms) ranks (length ms) 0 → AreHeldParts tree grid job (entries_in ms) (first_state ms) places ranks rows
rows-are_held {V} tree grid job places ranks ms orders rows can are =
    let long : length ms ≡ length job.arrays = zip_long (IsArrayIn job.formats) job.arrays ms can.arrays in
    let row = λ (rank : ℕ) (views : List V) (at : slice_get rows rank ≡ Some views).
    subst (λ n. IsRow (IsViewIn tree grid job places ranks ms rank) n views) (many_same (length ms) 0 rank (omega arith) ∙ long) (are.each rank views at) in record {
      count = are.count;
      long = λ rank views at. (row rank views at).long;
      each = λ rank views at. row-is_held tree grid job places ranks ms orders rank views can (omega (arith, are.count, below rows rank views at)) (row rank views at);
    }
