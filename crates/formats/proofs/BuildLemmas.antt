-- What a part that can be built gives to the store of its format, and what that store gives back.
use Rattle.std.proofs.Common.{◌≡◌, ℕ, ◌*◌, ◌<◌, ◌^◌, List, ℤ, Bool, Option, None, Some, true, false, length, map, get_or, Ok, Err, sym, ap, ◌∙◌, subst, refl}
use Rattle.std.specs.List.{AllPairs, flat_map, range_with_len}
use Rattle.std.specs.Prelude.{◌<ℤ◌, IfOk, Result}
use Rattle.std.proofs.lemmas.List.{length-map}
use Rattle.std.proofs.lemmas.List.Concat.{length-flat_map}
use Rattle.std.proofs.lemmas.List.Folds.{flat_map-map}
use Rattle.std.proofs.lemmas.List.FromFn.{fill_by_all, length-map-range_with_len, length-range_with_len}
use Rattle.std.proofs.lemmas.List.Sorted.{length_permutation}
use Rattle.bern_base.specs.Matrix.{IsMatrix}
use Rattle.bern_base.specs.declared.matrix.Entry.{Entry}
use Rattle.bern_base.specs.declared.axes.Axis.{Axis}
use Rattle.bern_base.specs.declared.axes.Axis.TheVariants as axis
use Rattle.bern_base.specs.declared.matrix.Matrix.{Matrix}
use Rattle.bern_base.specs.declared.memory.NoMemory.{NoMemory}
use Rattle.bern_base.specs.declared.shape.Shape.{Shape}
use Rattle.bern_base.specs.declared.shape.Shape.TheVariants as shape
use Rattle.format_model.proofs.OnceLemmas.{each-stored_element-once}
use Rattle.format_model.specs.Axes.{value_on}
use Rattle.format_model.specs.Content.{diagonal_columns, diagonal_line}
use Rattle.format_model.specs.Elements.{line_element, line_elements}
use Rattle.format_model.specs.Laws.{OrdersRows}
use Rattle.format_model.specs.Stored.{all_elements, element_at, stored_elements}
use Rattle.format_model.specs.Trees.{Describes}
use Rattle.formats.specs.AnyStores.{any_grid, any_tree}
use Rattle.formats.specs.Builds.{CanBuild, CanDense, CanDiagonal, CanPermute}
use Rattle.format_model.specs.Grids.{Grid}
use Rattle.formats.specs.declared.any_store.AnyStore.{AnyStore}
use Rattle.formats.specs.declared.any_store.AnyStore.TheVariants as any
use Rattle.stores_flat.specs.Changes.{SetsElement}
use Rattle.stores_flat.specs.Dense.{dense_grid, dense_shape, grid_of}
use Rattle.stores_flat.proofs.Describing.{changed, described as dense_described}
use Rattle.stores_shaped.specs.Diagonals.{diagonal_count}
use Rattle.stores_shaped.proofs.ArrangeLemmas.{same_lengths}

all_elements_fit : (m : Matrix) → length (all_elements m) < 2 ^ 32 → m.rows * m.cols < 2 ^ 32
all_elements_fit m few = subst (λ n. n < 2 ^ 32) (length-map-range_with_len (element_at m) 0 (m.rows * m.cols)) few

-- a vector that is kept whole
pub dense_vector : (s : Shape) (globals order : List ℕ) (m : Matrix) → s ≡ shape.DenseOne → CanBuild s globals order m → CanDense axis.Row true m
dense_vector s globals order m is can =
    let here = subst (λ t. CanBuild t globals order m) is can in record {
      matrix = here.matrix;
      few = all_elements_fit m here.few;
      outer_side = λ same. cc;
      single_axis = λ _. refl;
      single_cols = λ _. here.suits;
    }

-- a matrix that is kept whole
pub dense_matrix : (s : Shape) (globals order : List ℕ) (m : Matrix) (outer : Axis) → s ≡ shape.DenseDense outer → CanBuild s globals order m → CanDense outer false m
dense_matrix s globals order m outer is can =
    let here = subst (λ t. CanBuild t globals order m) is can in record {
      matrix = here.matrix;
      few = all_elements_fit m here.few;
      outer_side = here.suits;
      single_axis = λ one. absurd (cc);
      single_cols = λ one. absurd (cc);
    }

-- a store that describes a part in a format whatever its globals and order
pub described : (s t : Shape) (globals order : List ℕ) (m : Matrix) (built : Result AnyStore NoMemory) → s ≡ t
    → IfOk built (λ store. (gs os : List ℕ) → Describes (any_tree store) t gs os m) → IfOk built (λ store. Describes (any_tree store) s globals order m)
described s t globals order m (Ok store) is describes = subst (λ u. Describes (any_tree store) u globals order m) (sym is) (describes globals order)
described s t globals order m (Err none) is describes = tt

-- ---- diagonal and permuted parts

-- how many elements stand on the listed diagonals
pub diagonals_count : (offsets : List ℤ) (globals order : List ℕ) (m : Matrix) → IsMatrix m → AllPairs (λ a b. a <ℤ b) offsets → length globals ≡ m.rows
    → length (stored_elements (shape.Diagonal offsets) globals m) ≡ diagonal_count m.cols offsets globals
diagonals_count offsets globals order m is rise rows =
    let columns : ℕ → List ℕ = λ g. diagonal_columns m.cols offsets g in
    let line : ℕ → List Entry = λ row. line_elements axis.Row (diagonal_line offsets globals m row) in
    sym (length_permutation (stored_elements (shape.Diagonal offsets) globals m) (flat_map (line_elements axis.Row) (map (diagonal_line offsets globals m) (range_with_len 0 m.rows)))
    (each-stored_element-once (shape.Diagonal offsets) globals order m is rise))
    ∙ ap length (flat_map-map (line_elements axis.Row) (diagonal_line offsets globals m) (range_with_len 0 m.rows))
    ∙ same_lengths line (λ row. columns (get_or globals row 0)) (range_with_len 0 m.rows)
    (λ row. length-map (diagonal_line offsets globals m row).1 (line_element axis.Row row) ∙ length-map (columns (get_or globals row 0)) (λ col. (col, value_on axis.Row m row col)))
    ∙ ap (λ n. length (flat_map (λ row. columns (get_or globals row 0)) (range_with_len 0 n))) (sym rows)
    ∙ ap length (sym (flat_map-map columns (λ k. get_or globals k 0) (range_with_len 0 (length globals))) ∙ ap (flat_map columns) (sym (fill_by_all (λ k. get_or globals k 0) globals (length globals) 0 refl (λ k low. refl))))
    ∙ length-flat_map columns globals

pub diagonal_part : (s : Shape) (offsets : List ℤ) (globals order : List ℕ) (m : Matrix) → s ≡ shape.Diagonal offsets → CanBuild s globals order m → CanDiagonal offsets globals m
diagonal_part s offsets globals order m is can =
    let here = subst (λ t. CanBuild t globals order m) is can in record {
      matrix = here.matrix;
      rows = here.diagonals.0;
      rise = here.suits;
      offsets_small = here.diagonals.1;
      few = subst (λ n. n < 2 ^ 32) (diagonals_count offsets globals order m here.matrix here.suits here.diagonals.0) here.few;
    }

pub permuted_part : (s : Shape) (file globals order : List ℕ) (m : Matrix) → s ≡ shape.Permute file → CanBuild s globals order m → CanPermute globals order m
permuted_part s file globals order m is can =
    let here = subst (λ t. CanBuild t globals order m) is can in
    let rows : ℕ = here.suits.0 in
    let orders : OrdersRows globals order m rows = here.suits.1 in
    let long : rows ≡ length order = sym (length_permutation (range_with_len 0 rows) order orders.each_once ∙ length-range_with_len 0 rows) in record {
      matrix = here.matrix;
      few = here.few;
      orders = subst (OrdersRows globals order m) long orders;
    }

pub described_diagonals : (s : Shape) (offsets : List ℤ) (globals order : List ℕ) (m : Matrix) (built : Result AnyStore NoMemory) → s ≡ shape.Diagonal offsets
    → IfOk built (λ store. (os : List ℕ) → Describes (any_tree store) (shape.Diagonal offsets) globals os m) → IfOk built (λ store. Describes (any_tree store) s globals order m)
described_diagonals s offsets globals order m (Ok store) is describes = subst (λ u. Describes (any_tree store) u globals order m) (sym is) (describes order)
described_diagonals s offsets globals order m (Err none) is describes = tt

pub described_order : (s : Shape) (file globals order : List ℕ) (m : Matrix) (built : Result AnyStore NoMemory) → s ≡ shape.Permute file
    → IfOk built (λ store. (name : List ℕ) → Describes (any_tree store) (shape.Permute name) globals order m) → IfOk built (λ store. Describes (any_tree store) s globals order m)
described_order s file globals order m (Ok store) is describes = subst (λ u. Describes (any_tree store) u globals order m) (sym is) (describes file)
described_order s file globals order m (Err none) is describes = tt

-- ---- a store in which an element was set

unheld : (before : Option Grid) (single : Bool) (outer : Axis) (old new : Matrix) (element value : ℕ) → SetsElement before None single outer old new element value → ⊥
unheld before single outer old new element value is = let whole : None ≡ Some (grid_of single outer new) = changed before None single outer old new element value is in absurd cc

pub set_describes : (s t : AnyStore) (single : Bool) (outer : Axis) (old new : Matrix) (element value : ℕ) → SetsElement (any_grid s) (any_grid t) single outer old new element value
    → (globals order : List ℕ) → Describes (any_tree t) (dense_shape single outer) globals order new
set_describes s (any.Dense t) single outer old new element value is globals order =
    let whole = changed (any_grid s) (Some (dense_grid t.layout t.lines t.width t.values)) single outer old new element value is in
    let same : dense_grid t.layout t.lines t.width t.values ≡ grid_of single outer new = cc whole in
    dense_described t.layout t.lines t.width t.values single outer new t.single same globals order
set_describes s (any.List t) single outer old new element value is globals order = absurd (unheld (any_grid s) single outer old new element value is)
set_describes s (any.Packed t) single outer old new element value is globals order = absurd (unheld (any_grid s) single outer old new element value is)
set_describes s (any.Jagged t) single outer old new element value is globals order = absurd (unheld (any_grid s) single outer old new element value is)
set_describes s (any.Diagonal t) single outer old new element value is globals order = absurd (unheld (any_grid s) single outer old new element value is)
set_describes s (any.Permuted t) single outer old new element value is globals order = absurd (unheld (any_grid s) single outer old new element value is)
