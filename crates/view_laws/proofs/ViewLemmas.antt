-- The view of a rank's part is what the loops of a job ask for.
use Rattle.std.proofs.Common.{◌≡◌, ◌≢◌, ℕ, zero, suc, ◌+◌, ◌*◌, ◌^◌, ◌<◌, ◌&&◌, true, List, length, None, Some, refl, sym, ap, ◌∙◌, subst, arith}
use Rattle.std.specs.Option.{is_some, option_map}
use Rattle.bern_base.specs.declared.axes.Axis.{Axis}
use Rattle.bern_base.specs.declared.axes.Axis.TheVariants as axis
use Rattle.bern_base.specs.declared.job.ArrayDecl.{ArrayDecl}
use Rattle.bern_base.specs.declared.job.Checked.{Checked}
use Rattle.bern_base.specs.declared.matrix.Matrix.{Matrix}
use Rattle.bern_base.specs.declared.shape.Shape.{Shape}
use Rattle.bern_base.specs.declared.shape.Shape.TheVariants as shape
use Rattle.format_model.specs.Axes.{across, index_of}
use Rattle.format_model.specs.Checks.{astray_rule}
use Rattle.format_model.specs.Elements.{entry_at, path_of}
use Rattle.format_model.specs.Laws.{IsSide, searched}
use Rattle.format_model.specs.Levels.{Level, level_at, levels_of}
use Rattle.format_model.specs.Stored.{is_stored}
use Rattle.format_model.specs.Trees.{IsTree, Tree, axis_at, depth_of}
use Rattle.format_model.proofs.DescribesLemmas.{described_parts-are_held}
use Rattle.formats.specs.Admitted.{HasLevels}
use Rattle.formats.specs.Builds.{CanBuild}
use Rattle.formats.proofs.AdmittedLemmas.{parts-can-be-built, sizes_of}
use Rattle.local_views.specs.Views.{Cut, Fits, IsCut, IsReached, cut_of, own_cols, view_tree}
use Rattle.local_views.specs.ViewLaws.{view_is_tree}
use Rattle.local_views.proofs.FitLemmas.{described-parts_fit, part-is_part}
use Rattle.placement.specs.Elements.{owner_of_element}
use Rattle.placement.specs.Part.{extent_on, part_cols, part_of, part_rows}
use Rattle.placement.specs.Placement.{Triple, owned_of}
use Rattle.term_model.specs.Activity.{Entries, entries_of}
use Rattle.term_model.specs.Answers.{Places}
use Rattle.plan_courses.specs.JobCourses.{IsView, ref_at}
use Rattle.plan_courses.proofs.AnswerLemmas.{each_plan_walks_the_answer}
use Rattle.view_laws.specs.PartViews.{HoldsPart, PlansOverViewsWalkTheAnswer, ViewsHaveTheValues, ViewsOfPartsAreViews, triples_of, view_at}
use Rattle.view_laws.proofs.LocalLemmas.{IsAt, IsOwned, is_at, is_cut, is_local, local_col, local_row, own_rows, reached_moved, split_index, split_owned}
use Rattle.view_laws.proofs.StoredLemmas.{entry_told, stored_same}
use Rattle.view_laws.proofs.ValueLemmas.{element_same, small_kept}
use Rattle.std.specs.List.{All}
use Rattle.std.proofs.lemmas.Bool.{cond-true}
use Rattle.std.proofs.lemmas.List.Elements.{All-weaker}
use Rattle.bern_base.specs.Matrix.{IsInside, element}
use Rattle.bern_base.specs.declared.matrix.Entry.{Entry}
use Rattle.format_model.specs.Stored.{has_entry_at, stands_at, stored_elements}
use Rattle.format_model.proofs.AgreeLemmas.{stored_elements-have_their_values}
use Rattle.format_model.proofs.LookupLemmas.{has_entry-value_among}
use Rattle.placement.specs.Part.{is_owned, localized}

-- ---- levels

-- a level of rows or of columns is none of both
across_side : (a : Axis) → IsSide a → IsSide (across a)
across_side axis.Row side = λ same. cc
across_side axis.Col side = λ same. cc
across_side axis.Both side = side

only_outer : (levels : List Level) → IsSide (level_at levels 1).axis → length levels ≡ 2 → (level : ℕ) → level < length levels → (level_at levels level).axis ≡ axis.Both → level ≡ 0
only_outer levels side two zero low both = refl
only_outer levels side two (suc zero) low both = absurd (side both)
only_outer levels side two (suc (suc level)) low both = absurd (omega (arith, low, two))

only_one : (levels : List Level) → length levels ≡ 1 → (level : ℕ) → level < length levels → level ≡ 0
only_one levels one level low = omega (arith, low, one)

-- row and column stand in one level in the outer one alone
pub outer_alone : (s : Shape) → HasLevels s → (level : ℕ) → level < length (levels_of s) → (level_at (levels_of s) level).axis ≡ axis.Both → level ≡ 0
outer_alone shape.DenseOne has level low both = only_one (levels_of shape.DenseOne) refl level low
outer_alone shape.PackedOne has level low both = only_one (levels_of shape.PackedOne) refl level low
outer_alone shape.ListOne has level low both = only_one (levels_of shape.ListOne) refl level low
outer_alone (shape.DenseDense outer) has level low both = only_outer (levels_of (shape.DenseDense outer)) (across_side outer has) refl level low both
outer_alone (shape.DensePacked outer) has level low both = only_outer (levels_of (shape.DensePacked outer)) (across_side outer has) refl level low both
outer_alone (shape.PackedPacked outer) has level low both = only_outer (levels_of (shape.PackedPacked outer)) (across_side outer has) refl level low both
outer_alone shape.ListTwo has level low both = only_one (levels_of shape.ListTwo) refl level low
outer_alone shape.Jagged has level low both = only_outer (levels_of shape.Jagged) (λ same. cc) refl level low both
outer_alone (shape.Diagonal offsets) has level low both = only_outer (levels_of (shape.Diagonal offsets)) (λ same. cc) refl level low both
outer_alone (shape.Permute file) has level low both = only_outer (levels_of (shape.Permute file)) (λ same. cc) refl level low both

-- ---- a part and its sizes

rows_same : (a : Axis) (m : Matrix) (rows owned : ℕ) → a ≢ axis.Both → m.rows ≡ rows → part_rows a m owned ≡ own_rows a rows owned
rows_same axis.Row m rows owned side same = refl
rows_same axis.Col m rows owned side same = same
rows_same axis.Both m rows owned side same = absurd (side refl)

cols_same : (a : Axis) (m : Matrix) (cols owned : ℕ) → a ≢ axis.Both → m.cols ≡ cols → part_cols a m owned ≡ own_cols a cols owned
cols_same axis.Row m cols owned side same = same
cols_same axis.Col m cols owned side same = refl
cols_same axis.Both m cols owned side same = absurd (side refl)

module _ (job : Checked) (entries : Entries) (places : Places) (ranks rank number : ℕ) (t : Tree) (is : IsTree t) (under : IsReached t) (h : HoldsPart job entries places ranks rank number t) where
  abbrev array : ArrayDecl
  array = h.array

  abbrev m : Matrix
  m = h.matrix

  abbrev ts : List Triple
  ts = triples_of places array

  abbrev s : Shape
  s = h.format.shape

  abbrev part : Matrix
  part = (part_of array.axis ts rank m).matrix

  abbrev globals : List ℕ
  globals = (part_of array.axis ts rank m).globals

  abbrev cut : Cut
  cut = cut_of array.axis array.cols ts rank

  sizes : (m.rows ≡ array.rows) × (m.cols ≡ array.cols)
  sizes = sizes_of array.rows array.cols m (astray_rule s m) h.admitted.checked

  extent : extent_on array.axis m.rows m.cols ≡ length ts
  extent = ap (λ r. extent_on array.axis r m.cols) sizes.0 ∙ ap (λ c. extent_on array.axis array.rows c) sizes.1 ∙ h.extent

  can : CanBuild s globals h.order part
  can = parts-can-be-built array h.format ranks h.order m ts rank h.admitted h.placed extent

  fits : Fits cut t
  fits =
      subst (λ n. Fits (cut_of array.axis n ts rank) t) sizes.1
      (described-parts_fit t s globals h.order array.axis m.rows m.cols ranks rank ts part is under h.described can.matrix can.suits h.placed
      (part-is_part array.axis m ts rank h.admitted.side (omega (arith, sizes.0, h.admitted.rows)) (omega (arith, sizes.1, h.admitted.cols)) extent))

  rising : IsCut cut
  rising = is_cut array.axis ranks ts rank array.rows array.cols h.placed h.extent

  outer : (level : ℕ) → level < depth_of t → axis_at t level ≡ axis.Both → level ≡ 0
  outer level low both =
      outer_alone s h.admitted.levels level (subst (λ ls. level < length ls) h.described.levels low) (ap (λ ls. (level_at ls level).axis) (sym h.described.levels) ∙ both)

  module _ (row col : ℕ) (high : row < array.rows) (low : col < array.cols) (own : IsOwned ts rank (split_index array.axis row col)) (at : IsAt array.axis ts rank array.rows array.cols row col) where
    abbrev r : ℕ
    r = local_row array.axis ts row

    abbrev c : ℕ
    c = local_col array.axis ts col

    r_low : r < part.rows
    r_low = subst (λ n. r < n) (sym (rows_same array.axis m array.rows (owned_of ts rank) h.admitted.side sizes.0)) at.high

    c_low : c < part.cols
    c_low = subst (λ n. c < n) (sym (cols_same array.axis m array.cols (owned_of ts rank) h.admitted.side sizes.1)) at.low

    -- searches for the element of the array are searches for that of the part
    moved : searched (view_tree cut t) (path_of s array.cols row col) ≡ searched t (path_of s part.cols r c)
    moved =
        ap (option_map t.value)
        (reached_moved cut t is rising fits (λ a. index_of a array.cols (entry_at row col 0)) (λ a. index_of a cut.own (entry_at r c 0)) (is_local array.axis ts rank array.rows array.cols row col at)
        (levels_of s) 0 0 (omega (arith, ap length h.described.levels)) (λ k below. ap (axis_at t) (omega arith) ∙ ap (λ ls. (level_at ls k).axis) h.described.levels) (omega (arith, is.root)))
        ∙ ap (λ n. searched t (path_of s n r c)) (sym (cols_same array.axis m array.cols (owned_of ts rank) h.admitted.side sizes.1))

    found : is_some (searched (view_tree cut t) (path_of s array.cols row col)) ≡ is_stored s m.entries row col
    found =
        ap is_some (moved ∙ (described_parts-are_held t s globals h.order part h.described can.matrix can.suits).found r c r_low c_low)
        ∙ stored_same array.axis ranks ts rank array.rows array.cols row col m h.admitted.side h.admitted.matrix h.placed extent own at part refl r_low c_low s h.admitted.by_row

    stored_there : has_entry_at (stored_elements s globals part) r c ≡ is_stored s m.entries row col
    stored_there =
        has_entry-value_among (stored_elements s globals part) r c
        ∙ stored_same array.axis ranks ts rank array.rows array.cols row col m h.admitted.side h.admitted.matrix h.placed extent own at part refl r_low c_low s h.admitted.by_row

    value_there : All (λ e. e.value < 2 ^ 64) m.entries → is_stored s m.entries row col ≡ true →
        searched (view_tree cut t) (path_of s array.cols row col) ≡ Some (element array.cols m.entries (row * array.cols + col))
    value_there small there =
        moved ∙ (described_parts-are_held t s globals h.order part h.described can.matrix can.suits).found r c r_low c_low
        ∙ stored_elements-have_their_values s globals part can.matrix (small_kept array.axis ts rank m.entries small) r c r_low c_low
        ∙ cond-true (has_entry_at (stored_elements s globals part) r c) (Some (element part.cols part.entries (r * part.cols + c))) None (stored_there ∙ there)
        ∙ ap Some (element_same array.axis ts rank m.rows m.cols part.rows part.cols m.entries row col r c h.admitted.matrix.inside can.matrix.inside (omega (arith, low, sizes.1)) c_low
        (All-weaker (IsInside m.rows m.cols) (λ e. (is_owned array.axis ts rank e && stands_at r c (localized array.axis ts e)) ≡ stands_at row col e)
        (entry_told array.axis ranks ts rank m.rows m.cols row col h.admitted.side h.placed extent own) m.entries h.admitted.matrix.inside))
        ∙ ap (λ n. Some (element n m.entries (row * n + col))) sizes.1

  valued : (row col : ℕ) → row < array.rows → col < array.cols → owner_of_element array.axis ts array.cols (row * array.cols + col) ≡ rank → All (λ e. e.value < 2 ^ 64) m.entries →
      is_stored s m.entries row col ≡ true → searched (view_tree cut t) (path_of s array.cols row col) ≡ Some (element array.cols m.entries (row * array.cols + col))
  valued row col high low owner small there =
      let own = split_owned array.axis ranks ts rank array.rows array.cols row col h.admitted.side h.placed h.extent high low owner in
      value_there row col high low own (is_at array.axis ts rank array.rows array.cols row col h.admitted.side high low own) small there

  stored : (row col : ℕ) → row < array.rows → col < array.cols → owner_of_element array.axis ts array.cols (row * array.cols + col) ≡ rank →
      is_some (searched (view_tree cut t) (path_of s array.cols row col)) ≡ is_stored s m.entries row col
  stored row col high low owner =
      let own = split_owned array.axis ranks ts rank array.rows array.cols row col h.admitted.side h.placed h.extent high low owner in
      found row col high low own (is_at array.axis ts rank array.rows array.cols row col h.admitted.side high low own)

pub view_at-is_view : (job : Checked) (entries : Entries) (places : Places) (ranks rank number : ℕ) (t : Tree) → IsTree t → IsReached t →
    (h : HoldsPart job entries places ranks rank number t) → IsView job entries places rank number (view_at places h.array rank t)
view_at-is_view job entries places ranks rank number t is under h = record {
  array = h.array;
  format = h.format;
  array_is = h.array_is;
  format_is = h.format_is;
  lawful = view_is_tree (cut_of h.array.axis h.array.cols (triples_of places h.array) rank) t is (rising job entries places ranks rank number t is under h) (fits job entries places ranks rank number t is under h);
  levels = h.described.levels;
  outer = outer job entries places ranks rank number t is under h;
  stored = λ row col high low owner. stored job entries places ranks rank number t is under h row col high low owner ∙ ap (λ es. is_stored h.format.shape es row col) (sym h.entries_are);
}

pub views-of_parts-are_views : ViewsOfPartsAreViews
views-of_parts-are_views job entries places ranks rank number view v =
    subst (IsView job entries places rank number) (sym v.is) (view_at-is_view job entries places ranks rank number v.part v.lawful v.reached v.holds)

pub plans-over_views-walk_the_answer : PlansOverViewsWalkTheAnswer
plans-over_views-walk_the_answer job entries places nest t ranks rank tree plan is views =
    each_plan_walks_the_answer job entries places nest t rank tree plan is (λ r low. views-of_parts-are_views job entries places ranks rank (ref_at t r).array (tree r) (views r low))

pub views-have_the_values : ViewsHaveTheValues
views-have_the_values job entries places ranks rank number view v small row col high low owner there =
    let h = v.holds in
    let array : ArrayDecl = h.array in
    let es : List Entry = entries_of entries number in
    ap (λ w. searched w (path_of h.format.shape array.cols row col)) v.is
    ∙ valued job entries places ranks rank number v.part v.lawful v.reached h row col high low owner (subst (All (λ e. e.value < 2 ^ 64)) h.entries_are small)
    (sym (ap (λ es. is_stored h.format.shape es row col) h.entries_are) ∙ there)
    ∙ ap (λ es. Some (element array.cols es (row * array.cols + col))) (sym h.entries_are)
