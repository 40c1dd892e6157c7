-- A store that is set through a view has the elements of the changed part.
use Rattle.std.proofs.Common.{◌≡◌, ℕ, Bool, true, List, length, map, Option, Some, None, refl, sym, ap, ◌∙◌}
use Rattle.std.specs.List.{range_with_len}
use Rattle.std.proofs.lemmas.Bool.{cond-true}
use Rattle.std.proofs.lemmas.List.FromFn.{length-map-range_with_len}
use Rattle.bern_base.specs.Matrix.{values_of}
use Rattle.bern_base.specs.declared.axes.Axis.{Axis}
use Rattle.bern_base.specs.declared.matrix.Matrix.{Matrix}
use Rattle.format_model.specs.Grids.{Grid, with_element}
use Rattle.format_model.specs.Levels.{levels_of}
use Rattle.format_model.specs.Trees.{Describes}
use Rattle.formats.specs.AnyStores.{any_grid, any_tree}
use Rattle.formats.specs.declared.any_store.AnyStore.{AnyStore}
use Rattle.formats.specs.declared.any_store.AnyStore.TheVariants as any
use Rattle.local_views.specs.Views.{Cut, global_col, global_row, goes_by, view_grid}
use Rattle.stores_flat.specs.declared.layout.Layout.{Layout}
use Rattle.stores_flat.specs.declared.layout.Layout.TheVariants as layout
use Rattle.stores_flat.specs.Dense.{cols_of, dense_grid, dense_shape, dense_tree, elements_of, grid_of, grid_with, is_single, outer_of, rows_of}
use Rattle.stores_flat.proofs.Describing.{described}
use Rattle.view_laws.specs.SetViews.{HasElements, SetsViewed, viewed}

dense_goes : (l : Layout) → goes_by (is_single l) (outer_of l) (levels_of (dense_shape (is_single l) (outer_of l))) ≡ true
dense_goes layout.Single = refl
dense_goes layout.RowMajor = refl
dense_goes layout.ColMajor = refl

-- what a view of a dense store has
dense_seen : (cut : Cut) (l : Layout) (lines width : ℕ) (values : List ℕ) →
    view_grid cut (dense_tree l lines width values).levels (Some (dense_grid l lines width values)) ≡ Some (viewed cut (dense_grid l lines width values))
dense_seen cut l lines width values =
    cond-true (goes_by (is_single l) (outer_of l) (levels_of (dense_shape (is_single l) (outer_of l)))) (Some (viewed cut (dense_grid l lines width values))) None (dense_goes l)

-- a view of any store that has the elements of a part has them too
pub any_seen : (cut : Cut) (s : AnyStore) (single : Bool) (outer : Axis) (part : Matrix) → any_grid s ≡ Some (grid_of single outer part) →
    view_grid cut (any_tree s).levels (any_grid s) ≡ Some (viewed cut (grid_of single outer part))
any_seen cut (any.Dense s) single outer part had =
    let same : dense_grid s.layout s.lines s.width s.values ≡ grid_of single outer part = cc had in
    dense_seen cut s.layout s.lines s.width s.values ∙ ap (λ g. Some (viewed cut g)) same
any_seen cut (any.List s) single outer part had = absurd cc
any_seen cut (any.Packed s) single outer part had = absurd cc
any_seen cut (any.Jagged s) single outer part had = absurd cc
any_seen cut (any.Diagonal s) single outer part had = absurd cc
any_seen cut (any.Permuted s) single outer part had = absurd cc

pub any_described : (s : AnyStore) (single : Bool) (outer : Axis) (part : Matrix) → any_grid s ≡ Some (grid_of single outer part) →
    (globals order : List ℕ) → Describes (any_tree s) (dense_shape single outer) globals order part
any_described (any.Dense s) single outer part had globals order =
    let same : dense_grid s.layout s.lines s.width s.values ≡ grid_of single outer part = cc had in
    described s.layout s.lines s.width s.values single outer part s.single same globals order
any_described (any.List s) single outer part had globals order = absurd cc
any_described (any.Packed s) single outer part had globals order = absurd cc
any_described (any.Jagged s) single outer part had globals order = absurd cc
any_described (any.Diagonal s) single outer part had globals order = absurd cc
any_described (any.Permuted s) single outer part had globals order = absurd cc

-- as many indices on both sides, whatever they are moved to
same_count : (f g : ℕ → ℕ) (n m : ℕ) → map f (range_with_len 0 n) ≡ map g (range_with_len 0 m) → n ≡ m
same_count f g n m same = sym (length-map-range_with_len f 0 n) ∙ ap length same ∙ length-map-range_with_len g 0 m

-- a view tells all elements of the part but for the rows and columns at which they stand
told : (cut other : Cut) (single_a single : Bool) (outer_a outer : Axis) (rows_a rows cols_a cols : ℕ) (values_a values : List ℕ) →
    viewed other (grid_with single_a outer_a rows_a cols_a values_a) ≡ viewed cut (grid_with single outer rows cols values) →
    grid_with single_a outer_a rows_a cols_a values_a ≡ grid_with single outer rows cols values
told cut other single_a single outer_a outer rows_a rows cols_a cols values_a values same =
    let one : single_a ≡ single = ap (λ (g : Grid). g.single) same in
    let side : outer_a ≡ outer = ap (λ (g : Grid). g.outer) same in
    let high : rows_a ≡ rows = same_count (global_row other) (global_row cut) rows_a rows (ap (λ (g : Grid). g.rows) same) in
    let wide : cols_a ≡ cols = same_count (global_col other) (global_col cut) cols_a cols (ap (λ (g : Grid). g.cols) same) in
    let all : values_a ≡ values = ap (λ (g : Grid). g.values) same in
    ap (λ x. grid_with x outer_a rows_a cols_a values_a) one ∙ ap (λ x. grid_with single x rows_a cols_a values_a) side
    ∙ ap (λ x. grid_with single outer x cols_a values_a) high ∙ ap (λ x. grid_with single outer rows x values_a) wide ∙ ap (grid_with single outer rows cols) all

-- after one element is set, a view has those of the changed part
set_seen : (cut : Cut) (within before after : Option Grid) (single : Bool) (outer : Axis) (old new : Matrix) (element value : ℕ) →
    SetsViewed within before after single outer old new element value → before ≡ Some (viewed cut (grid_of single outer old)) → after ≡ Some (viewed cut (grid_of single outer new))
set_seen cut within before after single outer old new element value is had =
    is.set ∙ ap (λ g. with_element g element value) had
    ∙ ap (λ vs. Some (viewed cut (grid_with single outer old.rows old.cols vs))) (sym is.values)
    ∙ ap (λ r. Some (viewed cut (grid_with single outer r old.cols (values_of new)))) (sym is.rows)
    ∙ ap (λ k. Some (viewed cut (grid_with single outer new.rows k (values_of new)))) (sym is.cols)

-- a store whose view has the elements of a part has them
within : (cut other : Cut) (s : AnyStore) (single : Bool) (outer : Axis) (part : Matrix) → view_grid other (any_tree s).levels (any_grid s) ≡ Some (viewed cut (grid_of single outer part)) →
    any_grid s ≡ Some (grid_of single outer part)
within cut other (any.Dense s) single outer part seen =
    let all : Some (viewed other (dense_grid s.layout s.lines s.width s.values)) ≡ Some (viewed cut (grid_of single outer part)) = sym (dense_seen other s.layout s.lines s.width s.values) ∙ seen in
    let same : viewed other (dense_grid s.layout s.lines s.width s.values) ≡ viewed cut (grid_of single outer part) = cc all in
    ap Some (told cut other (is_single s.layout) single (outer_of s.layout) outer (rows_of s.layout s.lines s.width) part.rows (cols_of s.layout s.lines s.width) part.cols (elements_of s.layout s.lines s.width s.values) (values_of part) same)
within cut other (any.List s) single outer part seen = absurd cc
within cut other (any.Packed s) single outer part seen = absurd cc
within cut other (any.Jagged s) single outer part seen = absurd cc
within cut other (any.Diagonal s) single outer part seen = absurd cc
within cut other (any.Permuted s) single outer part seen = absurd cc

pub set_through : (cut other : Cut) (s t : AnyStore) (single : Bool) (outer : Axis) (old new : Matrix) (element value : ℕ) →
    SetsViewed (any_grid s) (view_grid cut (any_tree s).levels (any_grid s)) (view_grid other (any_tree t).levels (any_grid t)) single outer old new element value →
    HasElements cut (any_tree t) (any_grid t) (view_grid other (any_tree t).levels (any_grid t)) single outer new
set_through cut other s t single outer old new element value is =
    let seen = set_seen cut (any_grid s) (view_grid cut (any_tree s).levels (any_grid s)) (view_grid other (any_tree t).levels (any_grid t)) single outer old new element value is
    (any_seen cut s single outer old is.had) in
    let store = within cut other t single outer new seen in record {
      store = store;
      describes = any_described t single outer new store;
      view = seen;
    }
