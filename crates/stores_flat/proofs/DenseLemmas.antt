-- The children of dense levels, and the places of elements.
use Rattle.std.proofs.Common.{◌≡◌, ◌≢◌, ◌∙◌, ℕ, zero, suc, ◌+◌, ◌*◌, ◌/◌, ◌%◌, ◌^◌, ◌<◌, ◌≤◌, List, [], length, Some, None, refl, sym, ap, subst, arith, zero-add, ⊎_elim}
use Rattle.std.specs.Prelude.{replicate, slice_index, slice_set}
use Rattle.std.specs.List.{slice_get}
use Rattle.std.proofs.lemmas.Bool.{cases_eq}
use Rattle.std.proofs.lemmas.List.{ext_get_or, get_or-replicate, get_or-set_other, get_or-set_same, length-replicate, length-set}
use Rattle.std.proofs.lemmas.List.FromFn.{length-map-range_with_len}
use Rattle.std.proofs.lemmas.Option.{slice_get-get_or, slice_get_within}
use Rattle.std.proofs.lemmas.Nat.{div-add-mod', mul-add-lt, row_fits, rows, same_from_place}
use Rattle.format_model.specs.Made.{length-made, made_at, made_found, made_none}
use Rattle.format_model.specs.Grids.{Grid, with_element}
use Rattle.format_model.specs.Levels.{levels_of}
use Rattle.format_model.specs.Trees.{child_at}
use Rattle.stores_flat.specs.declared.layout.Layout.{Layout}
use Rattle.stores_flat.specs.declared.layout.Layout.TheVariants as layout
use Rattle.stores_flat.specs.Dense.{cols_of, dense_children, dense_grid, dense_nodes, dense_shape, elements_of, grid_with, is_single, level_extent, outer_of, place_of, rows_of}
use Rattle.stores_flat.specs.DenseLaws.{depth_fits, element_is}

pub length-dense_children : (extent parent : ℕ) → length (dense_children extent parent) ≡ extent
length-dense_children extent parent = length-made (λ i. i) (λ i. parent * extent + i) 0 extent

pub dense_child : (extent parent k child : ℕ) → k < length (dense_children extent parent) → child ≡ parent * extent + k → slice_get (dense_children extent parent) k ≡ Some (k, child)
dense_child extent parent k child below is =
    made_at (λ i. i) (λ i. parent * extent + i) 0 extent k (subst (λ n. k < n) (length-dense_children extent parent) below)
    ∙ ap (λ j. Some (j, parent * extent + j)) (zero-add k) ∙ ap (λ c. Some (k, c)) (sym is)

pub dense_found : (extent parent index child : ℕ) → index < extent → child ≡ parent * extent + index → Some child ≡ child_at (dense_children extent parent) index
dense_found extent parent index child below is =
    ap Some is ∙ sym (made_found (λ i. i) (λ i. parent * extent + i) 0 extent index (omega arith) (omega arith) (λ j low up same. omega arith))

pub dense_none : (extent parent index : ℕ) → extent ≤ index → child_at (dense_children extent parent) index ≡ None
dense_none extent parent index past = made_none (λ i. i) (λ i. parent * extent + i) 0 extent index (λ k low high same. omega arith)

-- the nodes below a level are no more than a u32 counts
pub nodes_fit : (lines width level : ℕ) → level < 2 → lines < 2 ^ 32 → lines * width < 2 ^ 32 → dense_nodes lines width level * level_extent lines width level < 2 ^ 32
nodes_fit lines width zero low lines_fit few = omega arith
nodes_fit lines width (suc zero) low lines_fit few = omega arith
nodes_fit lines width (suc (suc level)) low lines_fit few = absurd (omega arith)

-- the stretch of a parent's children
pub stretch_fits : (l : Layout) (lines width level parent : ℕ) → level < length (levels_of (dense_shape (is_single l) (outer_of l))) → parent < dense_nodes lines width level → lines < 2 ^ 32 → lines * width < 2 ^ 32 →
    parent * level_extent lines width level + level_extent lines width level < 2 ^ 32
stretch_fits l lines width level parent low below lines_fit few =
    let extent : ℕ = level_extent lines width level in
    let fits = nodes_fit lines width level (omega (arith, (depth_fits l lines width []).1)) lines_fit few in
    let most = row_fits parent extent (dense_nodes lines width level) extent below (omega arith) in omega (arith, fits, most)

-- a part has as many elements as its lines have
pub elements_count : (l : Layout) (lines width : ℕ) → rows_of l lines width * cols_of l lines width ≡ lines * width
elements_count layout.Single lines width = refl
elements_count layout.RowMajor lines width = refl
elements_count layout.ColMajor lines width = omega arith

pub length-elements_of : (l : Layout) (lines width : ℕ) (values : List ℕ) → length (elements_of l lines width values) ≡ lines * width
length-elements_of l lines width values =
    length-map-range_with_len (λ e. slice_index values (place_of l lines width e)) 0 (rows_of l lines width * cols_of l lines width) ∙ elements_count l lines width

-- in column-major order an element's column is a line and its row a place in it
column_major : (lines width e : ℕ) → e < lines * width → (e % lines < lines) × (e / lines < width)
column_major zero width e below = absurd (omega arith)
column_major (suc more) width e below = (omega arith, grind (arith, rows))

pub place_in_columns : (lines width e : ℕ) → e < lines * width → e % lines * width + e / lines < lines * width
place_in_columns lines width e below =
    let inside = column_major lines width e below in omega (arith, mul-add-lt (e % lines) width (e / lines) lines inside.0 inside.1)

pub place_within : (l : Layout) (lines width e : ℕ) → e < lines * width → place_of l lines width e < lines * width
place_within layout.Single lines width e below = below
place_within layout.RowMajor lines width e below = below
place_within layout.ColMajor lines width e below = place_in_columns lines width e below

-- two elements lie at two places
pub place_apart : (l : Layout) (lines width e k : ℕ) → e < lines * width → k < lines * width → e ≢ k → place_of l lines width e ≢ place_of l lines width k
place_apart layout.Single lines width e k first second differ same = differ same
place_apart layout.RowMajor lines width e k first second differ same = differ same
place_apart layout.ColMajor lines width e k first second differ same =
    let here = column_major lines width e first in
    let there = column_major lines width k second in
    let both = same_from_place (e % lines) (e / lines) (k % lines) (k / lines) width here.1 there.1 same in
    differ (sym (div-add-mod' e lines) ∙ ap (λ q. q * lines + e % lines) both.1 ∙ ap (λ r. k / lines * lines + r) both.0 ∙ div-add-mod' k lines)

-- a write at an element's place changes that element alone
pub elements_set : (l : Layout) (lines width : ℕ) (values : List ℕ) (e v : ℕ) → length values ≡ lines * width → e < lines * width →
    elements_of l lines width (slice_set values (place_of l lines width e) v) ≡ slice_set (elements_of l lines width values) e v
elements_set l lines width values e v full below =
    let new : List ℕ = slice_set values (place_of l lines width e) v in
    let long : length (elements_of l lines width new) ≡ lines * width = length-elements_of l lines width new in
    ext_get_or 0 (elements_of l lines width new) (slice_set (elements_of l lines width values) e v)
    (long ∙ sym (length-set (elements_of l lines width values) e v ∙ length-elements_of l lines width values)) (λ k within.
    let under : k < lines * width = subst (λ n. k < n) long within in
    let inside : k < rows_of l lines width * cols_of l lines width = subst (λ n. k < n) (sym (elements_count l lines width)) under in
    element_is l lines width new k inside ∙ ⊎_elim
    (λ (here : k ≡ e). ap (λ j. slice_index new (place_of l lines width j)) here
    ∙ get_or-set_same values (place_of l lines width e) v 0 (subst (λ n. place_of l lines width e < n) (sym full) (place_within l lines width e below))
    ∙ sym (ap (slice_index (slice_set (elements_of l lines width values) e v)) here ∙ get_or-set_same (elements_of l lines width values) e v 0 (subst (λ n. e < n) (sym (length-elements_of l lines width values)) below)))
    (λ (other : k ≢ e). get_or-set_other values (place_of l lines width e) (place_of l lines width k) v 0 (place_apart l lines width k e under below other)
    ∙ sym (get_or-set_other (elements_of l lines width values) e k v 0 other ∙ element_is l lines width values k inside))
    (cases_eq k e))

pub dense_set : (l : Layout) (lines width : ℕ) (values new : List ℕ) (e p v : ℕ) → length values ≡ lines * width → e < length (elements_of l lines width values) → p ≡ place_of l lines width e → new ≡ slice_set values p v →
    Some (dense_grid l lines width new) ≡ with_element (Some (dense_grid l lines width values)) e v
dense_set l lines width values new e p v full below place is =
    let grid : List ℕ → Grid = grid_with (is_single l) (outer_of l) (rows_of l lines width) (cols_of l lines width) in
    ap (λ vs. Some (grid vs)) (ap (elements_of l lines width) (is ∙ ap (λ k. slice_set values k v) place)
    ∙ elements_set l lines width values e v full (subst (λ n. e < n) (length-elements_of l lines width values) below))

-- zeros have zeros for their elements
pub elements_zero : (l : Layout) (lines width : ℕ) → elements_of l lines width (replicate (lines * width) 0) ≡ replicate (rows_of l lines width * cols_of l lines width) 0
elements_zero l lines width =
    let zeros : List ℕ = replicate (lines * width) 0 in
    let n : ℕ = rows_of l lines width * cols_of l lines width in
    let long : length (elements_of l lines width zeros) ≡ n = length-map-range_with_len (λ e. slice_index zeros (place_of l lines width e)) 0 n in
    ext_get_or 0 (elements_of l lines width zeros) (replicate n 0) (long ∙ sym (length-replicate n 0)) (λ k within.
    let under : k < n = subst (λ m. k < m) long within in
    let inside : k < lines * width = subst (λ m. k < m) (elements_count l lines width) under in
    element_is l lines width zeros k under ∙ get_or-replicate (lines * width) (place_of l lines width k) 0 0 (place_within l lines width k inside) ∙ sym (get_or-replicate n k 0 0 under))

-- what is read at a place that is there
pub read_at : (values : List ℕ) (k x : ℕ) → slice_get values k ≡ Some x → x ≡ slice_index values k
read_at values k x is =
    let there : Some (slice_index values k) ≡ Some x = sym (slice_get-get_or values k 0 (slice_get_within values k x is)) ∙ is in cc
