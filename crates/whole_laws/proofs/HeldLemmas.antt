-- A store that holds an array is a view of it, and has its values.
use Rattle.std.proofs.Common.{◌≡◌, ◌∙◌, ℕ, ◌+◌, ◌*◌, ◌<◌, true, List, Option, Some, None, length, refl, sym, ap, subst, arith}
use Rattle.std.specs.Prelude.{slice_index}
use Rattle.std.specs.Option.{is_some}
use Rattle.std.proofs.lemmas.Bool.{cond-true}
use Rattle.std.proofs.lemmas.List.FromFn.{length-map-range_with_len}
use Rattle.std.proofs.lemmas.Nat.{mul-add-lt}
use Rattle.bern_base.specs.Matrix.{element, values_of}
use Rattle.bern_base.specs.Shapes.{is_all_dense}
use Rattle.bern_base.specs.declared.axes.Axis.TheVariants as axis
use Rattle.bern_base.specs.declared.job.Checked.{Checked}
use Rattle.bern_base.specs.declared.matrix.Matrix.{Matrix}
use Rattle.bern_base.specs.declared.shape.Shape.{Shape}
use Rattle.bern_base.specs.declared.shape.Shape.TheVariants as shape
use Rattle.bern_base.proofs.ValuesLemmas.{get_or-matrix_values}
use Rattle.format_model.specs.Elements.{path_of, value_among}
use Rattle.format_model.specs.Grids.{Grid}
use Rattle.format_model.specs.Laws.{searched}
use Rattle.format_model.specs.Levels.{level_at}
use Rattle.format_model.specs.Stored.{has_entry_at, is_stored, stored_elements}
use Rattle.format_model.specs.Trees.{Tree, axis_at, depth_of}
use Rattle.format_model.proofs.AgreeLemmas.{stored_elements-have_their_values, the_test-agrees_with_the_list}
use Rattle.format_model.proofs.DescribesLemmas.{described_parts-are_held}
use Rattle.format_model.proofs.LookupLemmas.{has_entry-value_among}
use Rattle.formats.specs.Builds.{part_grid}
use Rattle.term_model.specs.Activity.{Entries, entries_of}
use Rattle.view_laws.proofs.ViewLemmas.{outer_alone}
use Rattle.whole_laws.specs.HeldArrays.{HoldsArray, all_rows}
use Rattle.whole_laws.specs.HeldLaws.{BuiltArraysAreHeld, HasCell, HeldArraysAreViews, HeldArraysHaveCells, HeldArraysHaveTheValues}
use Rattle.whole_laws.proofs.BuildLemmas.{sides, wholes-can-be-built}

pub built-arrays-are_held : BuiltArraysAreHeld
built-arrays-are_held job entries number m t g is =
    let sizes = sides is.array is.format is.ranks is.order m is.whole in record {
      array = is.array;
      format = is.format;
      order = is.order;
      matrix = m;
      array_is = is.array_is;
      format_is = is.format_is;
      levels = is.whole.levels;
      can = wholes-can-be-built is.array is.format is.ranks is.order m is.whole;
      small = is.small;
      rows = sizes.0;
      cols = sizes.1;
      values_are = refl;
      stored = λ row col. ap (λ es. is_stored is.format.shape es row col) (sym is.entries_are);
      lawful = is.lawful;
      described = is.described;
      grid = is.grid;
    }

module _ (job : Checked) (entries : Entries) (number : ℕ) (values : List ℕ) (t : Tree) (g : Option Grid) (h : HoldsArray job entries number values t g) where
  abbrev m : Matrix
  m = h.matrix

  abbrev s : Shape
  s = h.format.shape

  outer : (level : ℕ) → level < depth_of t → axis_at t level ≡ axis.Both → level ≡ 0
  outer level low both = outer_alone s h.levels level (subst (λ ls. level < length ls) h.described.levels low) (ap (λ ls. (level_at ls level).axis) (sym h.described.levels) ∙ both)

  module _ (row col : ℕ) (high : row < h.array.rows) (low : col < h.array.cols) where
    in_rows : row < m.rows
    in_rows = omega (arith, high, h.rows)

    in_cols : col < m.cols
    in_cols = omega (arith, low, h.cols)

    found : searched t (path_of s h.array.cols row col) ≡ value_among (stored_elements s (all_rows m) m) row col
    found =
        ap (λ n. searched t (path_of s n row col)) (sym h.cols)
        ∙ (described_parts-are_held t s (all_rows m) h.order m h.described h.can.matrix h.can.suits).found row col in_rows in_cols

    listed : has_entry_at (stored_elements s (all_rows m) m) row col ≡ is_stored s (entries_of entries number) row col
    listed = the_test-agrees_with_the_list s m row col in_rows in_cols ∙ h.stored row col

    stored_is : is_some (searched t (path_of s h.array.cols row col)) ≡ is_stored s (entries_of entries number) row col
    stored_is = ap is_some found ∙ sym (has_entry-value_among (stored_elements s (all_rows m) m) row col) ∙ listed

    value_is : is_stored s (entries_of entries number) row col ≡ true → searched t (path_of s h.array.cols row col) ≡ Some (slice_index values (row * h.array.cols + col))
    value_is there =
        found ∙ stored_elements-have_their_values s (all_rows m) m h.can.matrix h.small row col in_rows in_cols
        ∙ cond-true (has_entry_at (stored_elements s (all_rows m) m) row col) (Some (element m.cols m.entries (row * m.cols + col))) None (listed ∙ there)
        ∙ ap Some (sym (get_or-matrix_values m.rows m.cols m.entries (row * m.cols + col) (omega (arith, mul-add-lt row m.cols col m.rows in_rows in_cols))))
        ∙ ap (λ vs. Some (slice_index vs (row * m.cols + col))) (sym h.values_are)
        ∙ ap (λ n. Some (slice_index values (row * n + col))) h.cols

pub held-arrays-are_views : HeldArraysAreViews
held-arrays-are_views job entries number values t g h places rank = record {
  array = h.array;
  format = h.format;
  array_is = h.array_is;
  format_is = h.format_is;
  lawful = h.lawful;
  levels = h.described.levels;
  outer = outer job entries number values t g h;
  stored = λ row col high low owner. stored_is job entries number values t g h row col high low;
}

pub held-arrays-have_the_values : HeldArraysHaveTheValues
held-arrays-have_the_values job entries number values t g h row col high low there = value_is job entries number values t g h row col high low there

values_long : (m : Matrix) → length (values_of m) ≡ m.rows * m.cols
values_long m = length-map-range_with_len (element m.cols m.entries) 0 (m.rows * m.cols)

dense_cell : (s : Shape) (m : Matrix) (n : ℕ) → is_all_dense s ≡ true → n < m.rows * m.cols → HasCell (part_grid s m) (values_of m) n
dense_cell shape.DenseOne m n whole low = record { there = omega (arith, low, values_long m); value = refl }
dense_cell (shape.DenseDense outer) m n whole low = record { there = omega (arith, low, values_long m); value = refl }
dense_cell shape.PackedOne m n whole low = absurd cc
dense_cell shape.ListOne m n whole low = absurd cc
dense_cell (shape.DensePacked outer) m n whole low = absurd cc
dense_cell (shape.PackedPacked outer) m n whole low = absurd cc
dense_cell shape.ListTwo m n whole low = absurd cc
dense_cell shape.Jagged m n whole low = absurd cc
dense_cell (shape.Diagonal offsets) m n whole low = absurd cc
dense_cell (shape.Permute file) m n whole low = absurd cc

pub held-arrays-have_cells : HeldArraysHaveCells
held-arrays-have_cells job entries number values t g h whole n low =
    let same : h.matrix.rows * h.matrix.cols ≡ h.array.rows * h.array.cols = ap (λ r. r * h.matrix.cols) h.rows ∙ ap (λ c. h.array.rows * c) h.cols in
    subst (λ o. HasCell o values n) (sym h.grid)
    (subst (λ vs. HasCell (part_grid h.format.shape h.matrix) vs n) (sym h.values_are) (dense_cell h.format.shape h.matrix n whole (omega (arith, low, same))))
