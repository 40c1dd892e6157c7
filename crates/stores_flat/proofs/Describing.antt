-- A dense store describes the parts whose elements it has.
use Rattle.std.proofs.Common.{◌≡◌, ◌∙◌, ℕ, ◌+◌, ◌*◌, ◌<◌, Bool, true, List, length, Option, Some, refl, sym, ap, arith}
use Rattle.std.specs.Prelude.{slice_index}
use Rattle.std.proofs.lemmas.List.FromFn.{length-range_with_len}
use Rattle.std.proofs.lemmas.Nat.{mul-add-lt}
use Rattle.bern_base.proofs.ValuesLemmas.{get_or-matrix_values}
use Rattle.bern_base.specs.Matrix.{element, values_of}
use Rattle.bern_base.specs.declared.axes.Axis.{Axis}
use Rattle.bern_base.specs.declared.axes.Axis.TheVariants as axis
use Rattle.bern_base.specs.declared.matrix.Matrix.{Matrix}
use Rattle.format_model.specs.Axes.{value_on}
use Rattle.format_model.specs.Content.{One, Two, content_of}
use Rattle.format_model.specs.Grids.{Grid, grid_content, with_element}
use Rattle.format_model.specs.Levels.{levels_of}
use Rattle.format_model.specs.Trees.{Describes}
use Rattle.stores_flat.specs.declared.layout.Layout.{Layout}
use Rattle.stores_flat.specs.declared.layout.Layout.TheVariants as layout
use Rattle.stores_flat.specs.Changes.{SetsElement}
use Rattle.stores_flat.specs.Dense.{cols_of, dense_grid, dense_shape, dense_tree, grid_of, grid_with, is_single, outer_of}
use Rattle.stores_flat.specs.DenseLaws.{cols_list, column_agree, dense_lists, rows_list, single_lists, table_agree}

-- the value of a part at a row and column
value_at : (m : Matrix) (r c : ℕ) → r < m.rows → c < m.cols → slice_index (values_of m) (r * m.cols + c) ≡ element m.cols m.entries (r * m.cols + c)
value_at m r c row col = get_or-matrix_values m.rows m.cols m.entries (r * m.cols + c) (omega (arith, mul-add-lt r m.cols c m.rows row col))

-- the elements of a part are what its dense format lists
part_lists : (l : Layout) (m : Matrix) (globals order : List ℕ) → (is_single l ≡ true → m.cols ≡ 1) →
    grid_content (grid_of (is_single l) (outer_of l) m) ≡ content_of (dense_shape (is_single l) (outer_of l)) globals order m
part_lists layout.Single m globals order single =
    let one : m.cols ≡ 1 = single refl in
    single_lists axis.Row m.rows m.cols (values_of m) ∙ ap One (column_agree (λ r. slice_index (values_of m) (r * m.cols + 0)) (λ r. value_on axis.Row m r 0) m.rows (λ r below. value_at m r 0 below (omega (arith, one))))
part_lists layout.RowMajor m globals order single =
    rows_list m.rows m.cols (values_of m) ∙ ap Two (table_agree (λ r c. slice_index (values_of m) (r * m.cols + c)) (value_on axis.Row m) m.rows m.cols (λ r c below under. value_at m r c below under))
part_lists layout.ColMajor m globals order single =
    cols_list m.rows m.cols (values_of m) ∙ ap Two (table_agree (λ c r. slice_index (values_of m) (r * m.cols + c)) (value_on axis.Col m) m.cols m.rows (λ c r below under. value_at m r c under below))

-- a line of a store with one level has one column
single_col : (l : Layout) (lines width : ℕ) → (is_single l ≡ true → width ≡ 1) → is_single l ≡ true → cols_of l lines width ≡ 1
single_col layout.Single lines width one is = one is
single_col layout.RowMajor lines width one is = cc
single_col layout.ColMajor lines width one is = cc

pub described : (l : Layout) (lines width : ℕ) (values : List ℕ) (single : Bool) (outer : Axis) (m : Matrix) → (is_single l ≡ true → width ≡ 1) → dense_grid l lines width values ≡ grid_of single outer m →
    (globals order : List ℕ) → Describes (dense_tree l lines width values) (dense_shape single outer) globals order m
described l lines width values single outer m one is globals order =
    let same_single : is_single l ≡ single = ap (λ (g : Grid). g.single) is in
    let same_outer : outer_of l ≡ outer = ap (λ (g : Grid). g.outer) is in
    let cols : cols_of l lines width ≡ m.cols = sym (length-range_with_len 0 (cols_of l lines width)) ∙ ap (λ (g : Grid). length g.cols) is ∙ length-range_with_len 0 m.cols in
    let form : grid_of single outer m ≡ grid_of (is_single l) (outer_of l) m = sym (ap (λ s. grid_of s (outer_of l) m) same_single ∙ ap (λ o. grid_of single o m) same_outer) in
    let shape = ap (λ s. dense_shape s (outer_of l)) same_single ∙ ap (dense_shape single) same_outer in
    record {
      levels = ap levels_of shape;
      content = dense_lists l lines width values one ∙ ap grid_content (is ∙ form) ∙ part_lists l m globals order (λ t. sym cols ∙ single_col l lines width one t)
          ∙ ap (λ s. content_of s globals order m) shape;
    }

-- a store in which an element is set has the elements of the changed part
pub changed : (before after : Option Grid) (single : Bool) (outer : Axis) (old new : Matrix) (element value : ℕ) → SetsElement before after single outer old new element value → after ≡ Some (grid_of single outer new)
changed before after single outer old new element value is =
    is.set ∙ ap (λ g. with_element g element value) is.had
    ∙ ap (λ vs. Some (grid_with single outer old.rows old.cols vs)) (sym is.values)
    ∙ ap (λ r. Some (grid_with single outer r old.cols (values_of new))) (sym is.rows)
    ∙ ap (λ k. Some (grid_with single outer new.rows k (values_of new))) (sym is.cols)
