-- The laws of parts that are stored whole.
use Rattle.std.proofs.Common.{◌≡◌, ◌∙◌, ℕ, zero, suc, ◌+◌, ◌*◌, ◌/◌, ◌^◌, ◌<◌, ◌≤◌, true, false, List, [], length, map, Some, refl, sym, ap, subst, arith, zero-add}
use Rattle.std.specs.Prelude.{slice_index}
use Rattle.std.specs.List.{range_with_len}
use Rattle.std.proofs.lemmas.List.FromFn.{fill_by_all, length-range_with_len, get_or-range_with_len, length-map-range_with_len, get_or-map-range_with_len}
use Rattle.std.proofs.lemmas.Nat.{mul-add-lt, div-mul-add, mod-mul-add}
use Rattle.std.proofs.lemmas.Simd.{map-map}
use Rattle.bern_base.specs.declared.axes.Axis.{Axis}
use Rattle.bern_base.specs.declared.axes.Axis.TheVariants as axis
use Rattle.format_model.specs.declared.limits.TheConstants.{MOST_INDEX}
use Rattle.format_model.specs.Content.{One, Two}
use Rattle.format_model.specs.Grids.{Grid, Lists, grid_col, grid_content, grid_row, grid_value}
use Rattle.format_model.specs.Made.{made_all, made_once, made_rises}
use Rattle.format_model.specs.Trees.{IsTree, depth_of}
use Rattle.stores_flat.specs.declared.layout.Layout.{Layout}
use Rattle.stores_flat.specs.declared.layout.Layout.TheVariants as layout
use Rattle.stores_flat.specs.Dense.{cols_of, dense_children, dense_grid, dense_nodes, dense_tree, elements_of, grid_with, is_single, level_extent, place_of, rows_of}

extent_fits : (lines width level most : ℕ) → lines ≤ most → width ≤ most → level_extent lines width level ≤ most
extent_fits lines width zero most first second = first
extent_fits lines width (suc level) most first second = second

-- one level, or two
pub depth_fits : (l : Layout) (lines width : ℕ) (values : List ℕ) → (0 < depth_of (dense_tree l lines width values)) × (depth_of (dense_tree l lines width values) ≤ 2)
depth_fits layout.Single lines width values = (omega arith, omega arith)
depth_fits layout.RowMajor lines width values = (omega arith, omega arith)
depth_fits layout.ColMajor lines width values = (omega arith, omega arith)

-- children have stretches of their own, and every index rises by one
pub dense_is_tree : (l : Layout) (lines width : ℕ) (values : List ℕ) → lines < 2 ^ 32 → width < 2 ^ 32 → IsTree (dense_tree l lines width values)
dense_is_tree l lines width values lines_fit width_fits =
    let index : ℕ → ℕ = λ i. i in
    let extent : ℕ → ℕ = level_extent lines width in
    let child : ℕ → ℕ → ℕ → ℕ = λ level parent i. parent * level_extent lines width level + i in
    let most : (level : ℕ) → extent level ≤ MOST_INDEX = λ level. extent_fits lines width level MOST_INDEX (omega arith) (omega arith) in
    record {
      some = (depth_fits l lines width values).0;
      few = (depth_fits l lines width values).1;
      root = refl;
      within = λ level parent is. made_all (λ c. c.1 < dense_nodes lines width (suc level)) index (child level parent) 0 (extent level) (λ k low high.
          omega (arith, mul-add-lt parent (extent level) k (dense_nodes lines width level) is.1 (omega arith)));
      once = λ level parent is i. made_once index (child level parent) 0 (extent level) i (λ j k low up high same. omega arith);
      rises = λ level parent is ordered. made_rises index (child level parent) 0 (extent level) (λ i j low up high. up);
      small = λ level parent is. made_all (λ c. c.0 ≤ MOST_INDEX) index (child level parent) 0 (extent level) (λ k low high. omega (arith, most level));
    }

-- each index below n, with a value
abbrev pub column : (ℕ → ℕ) → ℕ → List (ℕ × ℕ)
column f n = map (λ i. (i, f i)) (range_with_len 0 n)

-- lines of one width, each with its index
abbrev pub table : (ℕ → ℕ → ℕ) → ℕ → ℕ → List (ℕ × List (ℕ × ℕ))
table f lines width = map (λ i. (i, column (f i) width)) (range_with_len 0 lines)

-- two lists that are made by index, of one length
agree : {X : Type 0} (d : X) (f g : ℕ → X) (n m : ℕ) → n ≡ m → ((k : ℕ) → k < n → f k ≡ g k) → map f (range_with_len 0 n) ≡ map g (range_with_len 0 m)
agree d f g n m long each =
    fill_by_all g (map f (range_with_len 0 n)) m d (length-map-range_with_len f 0 n ∙ long) (λ k below.
    let under : k < n = subst (λ i. k < i) (sym long) below in get_or-map-range_with_len f 0 n k k d under (zero-add k) ∙ each k under)

pub column_agree : (f g : ℕ → ℕ) (n : ℕ) → ((k : ℕ) → k < n → f k ≡ g k) → column f n ≡ column g n
column_agree f g n each =
    let pair : ℕ → ℕ → ℕ × ℕ = λ i v. (i, v) in
    agree (0, 0) (λ i. (i, f i)) (λ i. (i, g i)) n n refl (λ k below. ap (pair k) (each k below))

pub table_agree : (f g : ℕ → ℕ → ℕ) (lines width : ℕ) → ((i j : ℕ) → i < lines → j < width → f i j ≡ g i j) → table f lines width ≡ table g lines width
table_agree f g lines width each =
    let pair : ℕ → List (ℕ × ℕ) → ℕ × List (ℕ × ℕ) = λ i v. (i, v) in
    agree (0, []) (λ i. (i, column (f i) width)) (λ i. (i, column (g i) width)) lines lines refl
    (λ i below. ap (pair i) (column_agree (f i) (g i) width (λ j under. each i j below under)))

-- what the children of a parent list
below_parent : (values : List ℕ) (extent parent : ℕ) → map {B = ℕ × ℕ} (λ (c : ℕ × ℕ). (c.0, slice_index values c.1)) (dense_children extent parent) ≡ column (λ i. slice_index values (parent * extent + i)) extent
below_parent values extent parent =
    let last : ℕ × ℕ → ℕ × ℕ = λ c. (c.0, slice_index values c.1) in
    let first : ℕ → ℕ × ℕ = λ i. (i, parent * extent + i) in
    map-map last first (range_with_len 0 extent)

-- what two levels list
below_root : (values : List ℕ) (lines width : ℕ) →
    map {B = ℕ × List (ℕ × ℕ)} (λ (c : ℕ × ℕ). (c.0, map {B = ℕ × ℕ} (λ (d : ℕ × ℕ). (d.0, slice_index values d.1)) (dense_children width c.1))) (dense_children lines 0)
    ≡ table (λ i j. slice_index values (i * width + j)) lines width
below_root values lines width =
    let last : ℕ × ℕ → ℕ × List (ℕ × ℕ) = λ c. (c.0, map {B = ℕ × ℕ} (λ (d : ℕ × ℕ). (d.0, slice_index values d.1)) (dense_children width c.1)) in
    let first : ℕ → ℕ × ℕ = λ i. (i, 0 * lines + i) in
    let pair : ℕ → List (ℕ × ℕ) → ℕ × List (ℕ × ℕ) = λ i v. (i, v) in
    map-map last first (range_with_len 0 lines)
    ∙ agree (0, []) (λ i. last (first i)) (λ i. (i, column (λ j. slice_index values (i * width + j)) width)) lines lines refl (λ i below.
    let here : 0 * lines + i ≡ i = omega arith in
    ap (pair i) (below_parent values width (0 * lines + i) ∙ ap (λ p. column (λ j. slice_index values (p * width + j)) width) here))

pair_same : {X Y : Type 0} (a b : X) (u v : Y) → a ≡ b → u ≡ v → ◌≡◌ {A = X × Y} (a, u) (b, v)
pair_same {X} {Y} a b u v first second =
    let before : X → X × Y = λ x. (x, u) in
    let after : Y → X × Y = λ y. (b, y) in
    ap before first ∙ ap after second

-- the numbers below n stand at their own places
counts : (n k : ℕ) → k < length (range_with_len 0 n) → slice_index (range_with_len 0 n) k ≡ k
counts n k below = get_or-range_with_len 0 n k 0 (subst (λ m. k < m) (length-range_with_len 0 n) below) ∙ zero-add k

-- what a grid with all its rows and columns lists
pub single_lists : (outer : Axis) (rows cols : ℕ) (values : List ℕ) → grid_content (grid_with true outer rows cols values) ≡ One (column (λ r. slice_index values (r * cols + 0)) rows)
single_lists outer rows cols values =
    let g : Grid = grid_with true outer rows cols values in
    ap One (agree (0, 0) (λ r. (slice_index g.rows r, grid_value g r 0)) (λ r. (r, slice_index values (r * cols + 0))) (length (range_with_len 0 rows)) rows (length-range_with_len 0 rows)
    (λ r below. pair_same (slice_index g.rows r) r (grid_value g r 0) (slice_index values (r * cols + 0)) (counts rows r below) (ap (λ n. slice_index values (r * n + 0)) (length-range_with_len 0 cols))))

pub rows_list : (rows cols : ℕ) (values : List ℕ) → grid_content (grid_with false axis.Row rows cols values) ≡ Two (table (λ r c. slice_index values (r * cols + c)) rows cols)
rows_list rows cols values =
    let g : Grid = grid_with false axis.Row rows cols values in
    ap Two (agree (0, []) (grid_row g) (λ r. (r, column (λ c. slice_index values (r * cols + c)) cols)) (length (range_with_len 0 rows)) rows (length-range_with_len 0 rows) (λ r below.
    pair_same (slice_index g.rows r) r (map (λ c. (slice_index g.cols c, grid_value g r c)) (range_with_len 0 (length g.cols))) (column (λ c. slice_index values (r * cols + c)) cols) (counts rows r below)
    (agree (0, 0) (λ c. (slice_index g.cols c, grid_value g r c)) (λ c. (c, slice_index values (r * cols + c))) (length (range_with_len 0 cols)) cols (length-range_with_len 0 cols)
    (λ c under. pair_same (slice_index g.cols c) c (grid_value g r c) (slice_index values (r * cols + c)) (counts cols c under) (ap (λ n. slice_index values (r * n + c)) (length-range_with_len 0 cols))))))

pub cols_list : (rows cols : ℕ) (values : List ℕ) → grid_content (grid_with false axis.Col rows cols values) ≡ Two (table (λ c r. slice_index values (r * cols + c)) cols rows)
cols_list rows cols values =
    let g : Grid = grid_with false axis.Col rows cols values in
    ap Two (agree (0, []) (grid_col g) (λ c. (c, column (λ r. slice_index values (r * cols + c)) rows)) (length (range_with_len 0 cols)) cols (length-range_with_len 0 cols) (λ c below.
    pair_same (slice_index g.cols c) c (map (λ r. (slice_index g.rows r, grid_value g r c)) (range_with_len 0 (length g.rows))) (column (λ r. slice_index values (r * cols + c)) rows) (counts cols c below)
    (agree (0, 0) (λ r. (slice_index g.rows r, grid_value g r c)) (λ r. (r, slice_index values (r * cols + c))) (length (range_with_len 0 rows)) rows (length-range_with_len 0 rows)
    (λ r under. pair_same (slice_index g.rows r) r (grid_value g r c) (slice_index values (r * cols + c)) (counts rows r under) (ap (λ n. slice_index values (r * n + c)) (length-range_with_len 0 cols))))))

-- an element by its number
pub element_is : (l : Layout) (lines width : ℕ) (values : List ℕ) (e : ℕ) → e < rows_of l lines width * cols_of l lines width → slice_index (elements_of l lines width values) e ≡ slice_index values (place_of l lines width e)
element_is l lines width values e below =
    get_or-map-range_with_len (λ k. slice_index values (place_of l lines width k)) 0 (rows_of l lines width * cols_of l lines width) e e 0 below (zero-add e)

-- a tree lists the elements of its part
pub dense_lists : (l : Layout) (lines width : ℕ) (values : List ℕ) → (is_single l ≡ true → width ≡ 1) → Lists (dense_tree l lines width values) (Some (dense_grid l lines width values))
dense_lists layout.Single lines width values single =
    let elements : List ℕ = elements_of layout.Single lines width values in
    let one : width ≡ 1 = single refl in
    ap One (below_parent values lines 0 ∙ column_agree (λ i. slice_index values (0 * lines + i)) (λ r. slice_index elements (r * width + 0)) lines (λ r below.
    let place : r * width + 0 ≡ r * 1 + 0 = ap (λ w. r * w + 0) one in
    let all : lines * width ≡ lines * 1 = ap (λ w. lines * w) one in
    let same : 0 * lines + r ≡ r * width + 0 = omega arith in
    ap (slice_index values) same ∙ sym (element_is layout.Single lines width values (r * width + 0) (omega arith)))) ∙ sym (single_lists axis.Row lines width elements)
dense_lists layout.RowMajor lines width values single =
    let elements : List ℕ = elements_of layout.RowMajor lines width values in
    ap Two (below_root values lines width ∙ table_agree (λ i j. slice_index values (i * width + j)) (λ r c. slice_index elements (r * width + c)) lines width (λ i j below under.
    sym (element_is layout.RowMajor lines width values (i * width + j) (omega (arith, mul-add-lt i width j lines below under))))) ∙ sym (rows_list lines width elements)
dense_lists layout.ColMajor lines width values single =
    let elements : List ℕ = elements_of layout.ColMajor lines width values in
    ap Two (below_root values lines width ∙ table_agree (λ i j. slice_index values (i * width + j)) (λ c r. slice_index elements (r * lines + c)) lines width (λ i j below under.
    let place : place_of layout.ColMajor lines width (j * lines + i) ≡ i * width + j =
    ap (λ line. line * width + (j * lines + i) / lines) (mod-mul-add j lines i below) ∙ ap (λ at. i * width + at) (div-mul-add j lines i below) in
    sym (element_is layout.ColMajor lines width values (j * lines + i) (omega (arith, mul-add-lt j lines i width under below)) ∙ ap (slice_index values) place))) ∙ sym (cols_list width lines elements)
