-- A store that is kept whole, with other values at its elements.
use Rattle.std.proofs.Common.{◌≡◌, ◌≢◌, ◌∙◌, ℕ, zero, suc, ◌+◌, ◌*◌, ◌/◌, ◌%◌, ◌<◌, ◌^◌, ◌==◌, Bool, true, false, List, [], ◌∷◌, Some, map, length, refl, sym, ap, subst, ⊎_elim, arith, zero-add}
use Rattle.std.specs.Prelude.{if◌then◌else◌, slice_get, slice_index, slice_set}
use Rattle.std.specs.List.{All, range_with_len}
use Rattle.std.proofs.Math.Nat.{div-add-mod', div-lt_iff_lt-mul, mod-eq_of_lt, mod-lt}
use Rattle.std.proofs.lemmas.Bool.{cases_eq, eq-eqb, ne_eqb}
use Rattle.std.proofs.lemmas.List.{get_or-map, length-map, length-set}
use Rattle.std.proofs.lemmas.List.Elements.{All-map}
use Rattle.std.proofs.lemmas.List.FromFn.{fill_by_all, get_or-map-range_with_len, length-map-range_with_len, length-range_with_len}
use Rattle.bern_base.specs.Matrix.{IsInside, IsMatrix, element, number, values_of}
use Rattle.bern_base.specs.declared.axes.Axis.{Axis}
use Rattle.bern_base.specs.declared.axes.Axis.TheVariants as axis
use Rattle.bern_base.specs.declared.matrix.Entry.{Entry}
use Rattle.bern_base.specs.declared.matrix.Matrix.{Matrix}
use Rattle.bern_base.specs.declared.shape.Shape.{Shape}
use Rattle.bern_base.specs.declared.shape.Shape.TheVariants as shape
use Rattle.bern_base.proofs.SumLemmas.{All-range, sum_by-map, sum_by_one}
use Rattle.format_model.specs.Grids.{Grid}
use Rattle.format_model.specs.Stored.{element_at, is_stored}
use Rattle.format_model.specs.Trees.{Describes}
use Rattle.formats.specs.declared.any_store.AnyStore.{AnyStore}
use Rattle.formats.specs.declared.any_store.AnyStore.TheVariants as any
use Rattle.formats.specs.AnyStores.{any_grid, any_is_tree, any_tree}
use Rattle.formats.specs.Builds.{CanBuild, part_grid}
use Rattle.job_model.specs.State.{values_in}
use Rattle.stores_flat.specs.Dense.{cols_of, dense_grid, dense_shape, grid_of, grid_with, place_of, rows_of}
use Rattle.term_model.specs.Activity.{entries_of}
use Rattle.view_laws.proofs.SetLemmas.{any_described}
use Rattle.whole_laws.specs.HeldArrays.{HoldsArray, all_rows}
use Rattle.whole_laws.specs.HeldLaws.{ChangedStatesAreHeld, ChangedStoresHold}

-- ---- a matrix of given values

entry_of : ℕ → List ℕ → ℕ → Entry
entry_of cols vs n = record { row = n / cols; col = n % cols; value = slice_index vs n }

with_values : ℕ → ℕ → List ℕ → Matrix
with_values rows cols vs = record { rows = rows; cols = cols; entries = map (entry_of cols vs) (range_with_len 0 (rows * cols)) }

pub some_cols : (rows cols n : ℕ) → n < rows * cols → 0 < cols
some_cols rows zero n low = let none : rows * 0 ≡ 0 = omega arith in absurd (omega (arith, low, none))
some_cols rows (suc cols) n low = omega arith

number_is : (cols : ℕ) (vs : List ℕ) (n : ℕ) → number cols (entry_of cols vs n) ≡ n
unfolding entry_of
number_is cols vs n = div-add-mod' n cols

numbers_are : (rows cols : ℕ) (vs : List ℕ) (k : ℕ) → k < rows * cols → slice_index (map (number cols) (with_values rows cols vs).entries) k ≡ k
unfolding with_values
numbers_are rows cols vs k low =
    let all : List ℕ = range_with_len 0 (rows * cols) in
    get_or-map (number cols) (map (entry_of cols vs) all) k (entry_of cols vs 0) 0 (subst (λ n. k < n) (sym (length-map-range_with_len (entry_of cols vs) 0 (rows * cols))) low)
    ∙ ap (number cols) (get_or-map-range_with_len (entry_of cols vs) 0 (rows * cols) k k (entry_of cols vs 0) low (zero-add k))
    ∙ number_is cols vs k

with_values_is : (rows cols : ℕ) (vs : List ℕ) → IsMatrix (with_values rows cols vs)
unfolding with_values entry_of
with_values_is rows cols vs = record {
  inside = All-map (IsInside rows cols) (entry_of cols vs) (range_with_len 0 (rows * cols))
      (All-range (λ n. IsInside rows cols (entry_of cols vs n)) (rows * cols) (λ n low. ((div-lt_iff_lt-mul (some_cols rows cols n low)).1 low, mod-lt n (some_cols rows cols n low))));
  rising = λ k within.
      let long : length (map (number cols) (with_values rows cols vs).entries) ≡ rows * cols = length-map (with_values rows cols vs).entries (number cols) ∙ length-map-range_with_len (entry_of cols vs) 0 (rows * cols) in
      omega (arith, within, long, numbers_are rows cols vs k (omega (arith, within, long)), numbers_are rows cols vs (k + 1) (omega (arith, within, long)));
}

element_is : (rows cols : ℕ) (vs : List ℕ) (n : ℕ) → n < rows * cols → slice_index vs n < 2 ^ 64 → element cols (with_values rows cols vs).entries n ≡ slice_index vs n
unfolding with_values entry_of
element_is rows cols vs n low small =
    let share : Entry → ℕ = λ e. if number cols e == n then e.value else 0 in
    let other : (j : ℕ) → j < rows * cols → (j ≡ n → ⊥) → share (entry_of cols vs j) ≡ 0 = λ j under apart.
    ap (λ b. if b then slice_index vs j else 0) (ne_eqb (number cols (entry_of cols vs j)) n (λ same. apart (sym (number_is cols vs j) ∙ same))) in
    ap (λ v. v % 2 ^ 64)
    (sum_by-map share (entry_of cols vs) (range_with_len 0 (rows * cols))
    ∙ sum_by_one (λ j. share (entry_of cols vs j)) (rows * cols) n low other
    ∙ ap (λ b. if b then slice_index vs n else 0) (eq-eqb (number cols (entry_of cols vs n)) n (number_is cols vs n)))
    ∙ mod-eq_of_lt small

values_are : (rows cols : ℕ) (vs : List ℕ) → length vs ≡ rows * cols → All (λ v. v < 2 ^ 64) vs → values_of (with_values rows cols vs) ≡ vs
unfolding with_values
values_are rows cols vs long small =
    sym (fill_by_all (element cols (with_values rows cols vs).entries) vs (rows * cols) 0 long
    (λ k low. sym (element_is rows cols vs k low (small k 0 (omega (arith, low, long))))))

-- ---- formats that are stored whole

-- a store that is kept whole has an element for each row and column
pub any_cells : (s : AnyStore) (g : Grid) → any_grid s ≡ Some g → length g.values ≡ length g.rows * length g.cols
any_cells (any.Dense s) g is =
    let same : dense_grid s.layout s.lines s.width s.values ≡ g = cc in
    let rows : ℕ = rows_of s.layout s.lines s.width in
    let cols : ℕ = cols_of s.layout s.lines s.width in
    subst (λ (h : Grid). length h.values ≡ length h.rows * length h.cols) same
    (length-map-range_with_len (λ n. slice_index s.values (place_of s.layout s.lines s.width n)) 0 (rows * cols)
    ∙ sym (ap (λ r. r * length (range_with_len 0 cols)) (length-range_with_len 0 rows) ∙ ap (λ c. rows * c) (length-range_with_len 0 cols)))
any_cells (any.List s) g is = absurd cc
any_cells (any.Packed s) g is = absurd cc
any_cells (any.Jagged s) g is = absurd cc
any_cells (any.Diagonal s) g is = absurd cc
any_cells (any.Permuted s) g is = absurd cc

record IsDenseOf (s : Shape) (m : Matrix) (g : Grid) : Type 0 where
  single : Bool
  outer : Axis
  shape : dense_shape single outer ≡ s
  row : single ≡ true → outer ≡ axis.Row
  grid : g ≡ grid_of single outer m

dense_of : (s : Shape) (m : Matrix) (g : Grid) → Some g ≡ part_grid s m → IsDenseOf s m g
dense_of shape.DenseOne m g is = record { single = true; outer = axis.Row; shape = refl; row = λ _. refl; grid = cc }
dense_of (shape.DenseDense outer) m g is = record { single = false; outer = outer; shape = refl; row = λ one. absurd cc; grid = cc }
dense_of shape.PackedOne m g is = absurd cc
dense_of shape.ListOne m g is = absurd cc
dense_of (shape.DensePacked outer) m g is = absurd cc
dense_of (shape.PackedPacked outer) m g is = absurd cc
dense_of shape.ListTwo m g is = absurd cc
dense_of shape.Jagged m g is = absurd cc
dense_of (shape.Diagonal offsets) m g is = absurd cc
dense_of (shape.Permute file) m g is = absurd cc

all_stored : (single : Bool) (outer : Axis) (es : List Entry) (row col : ℕ) → is_stored (dense_shape single outer) es row col ≡ true
all_stored true outer es row col = refl
all_stored false outer es row col = refl

can_dense : (single : Bool) (outer : Axis) (rows cols : ℕ) (vs order : List ℕ) (m : Matrix) → m.rows ≡ rows → m.cols ≡ cols → CanBuild (dense_shape single outer) (all_rows m) order m →
    CanBuild (dense_shape single outer) (all_rows (with_values rows cols vs)) order (with_values rows cols vs)
unfolding with_values
can_dense true outer rows cols vs order m same_rows same_cols can =
    let count : m.rows * m.cols ≡ rows * cols = ap (λ r. r * m.cols) same_rows ∙ ap (λ c. rows * c) same_cols in record {
      matrix = with_values_is rows cols vs;
      suits = sym same_cols ∙ can.suits;
      few = omega (arith, can.few, count, length-map-range_with_len (element_at m) 0 (m.rows * m.cols), length-map-range_with_len (element_at (with_values rows cols vs)) 0 (rows * cols));
      small = omega (arith, can.small, count);
      diagonals = tt;
    }
can_dense false outer rows cols vs order m same_rows same_cols can =
    let count : m.rows * m.cols ≡ rows * cols = ap (λ r. r * m.cols) same_rows ∙ ap (λ c. rows * c) same_cols in record {
      matrix = with_values_is rows cols vs;
      suits = can.suits;
      few = omega (arith, can.few, count, length-map-range_with_len (element_at m) 0 (m.rows * m.cols), length-map-range_with_len (element_at (with_values rows cols vs)) 0 (rows * cols));
      small = omega (arith, can.small, count);
      diagonals = tt;
    }

pub changed-stores-hold : ChangedStoresHold
unfolding with_values entry_of
changed-stores-hold job entries number before after old new h n =
    let m : Matrix = h.matrix in
    let w : Matrix = with_values m.rows m.cols after in
    let d : IsDenseOf h.format.shape m n.grid = dense_of h.format.shape m n.grid (sym n.had ∙ h.grid) in
    let long : length after ≡ m.rows * m.cols =
    any_cells new (record n.grid { values = after }) n.has
    ∙ ap (λ (g : Grid). length g.rows * length g.cols) d.grid
    ∙ ap (λ r. r * length (range_with_len 0 m.cols)) (length-range_with_len 0 m.rows) ∙ ap (λ c. m.rows * c) (length-range_with_len 0 m.cols) in
    let values : values_of w ≡ after = values_are m.rows m.cols after long n.small in
    let grid : any_grid new ≡ Some (grid_of d.single d.outer w) = n.has ∙ ap (λ (g : Grid). Some (record g { values = after })) d.grid ∙ ap (λ vs. Some (grid_with d.single d.outer m.rows m.cols vs)) (sym values) in record {
      array = h.array;
      format = h.format;
      order = h.order;
      matrix = w;
      array_is = h.array_is;
      format_is = h.format_is;
      levels = h.levels;
      can = subst (λ s. CanBuild s (all_rows w) h.order w) d.shape (can_dense d.single d.outer m.rows m.cols after h.order m refl refl (subst (λ s. CanBuild s (all_rows m) h.order m) (sym d.shape) h.can));
      small = All-map (λ e. e.value < 2 ^ 64) (entry_of m.cols after) (range_with_len 0 (m.rows * m.cols))
          (All-range (λ k. slice_index after k < 2 ^ 64) (m.rows * m.cols) (λ k low. n.small k 0 (omega (arith, low, long))));
      rows = h.rows;
      cols = h.cols;
      values_are = sym values;
      stored = λ row col. ap (λ s. is_stored s w.entries row col) (sym d.shape) ∙ all_stored d.single d.outer w.entries row col
          ∙ sym (all_stored d.single d.outer (entries_of entries number) row col) ∙ ap (λ s. is_stored s (entries_of entries number) row col) d.shape;
      lawful = any_is_tree new;
      described = subst (λ s. Describes (any_tree new) s (all_rows w) h.order w) d.shape (any_described new d.single d.outer w grid (all_rows w) h.order);
      grid = grid ∙ grid_part d.single d.outer w d.row ∙ ap (λ s. part_grid s w) d.shape;
    }
  where
    grid_part : (single : Bool) (outer : Axis) (w : Matrix) → (single ≡ true → outer ≡ axis.Row) → Some (grid_of single outer w) ≡ part_grid (dense_shape single outer) w
    grid_part true outer w row = ap (λ o. Some (grid_of true o w)) (row refl)
    grid_part false outer w row = refl

-- ---- states

pub set_other : {X : Type 0} (xs : List X) (n k : ℕ) (x : X) → (k ≡ n → ⊥) → slice_get (slice_set xs n x) k ≡ slice_get xs k
set_other [] n k x apart = refl
set_other (y ∷ xs) zero zero x apart = absurd (apart refl)
set_other (y ∷ xs) zero (suc k) x apart = refl
set_other (y ∷ xs) (suc n) zero x apart = refl
set_other (y ∷ xs) (suc n) (suc k) x apart = set_other xs n k x (λ same. apart (ap (λ m. suc m) same))

pub set_same : {X : Type 0} (xs : List X) (n : ℕ) (x old : X) → slice_get xs n ≡ Some old → slice_get (slice_set xs n x) n ≡ Some x
set_same [] n x old is = absurd cc
set_same (y ∷ xs) zero x old is = refl
set_same (y ∷ xs) (suc n) x old is = set_same xs n x old is

some_same : {X : Type 0} (x y : X) → Some x ≡ Some y → x ≡ y
some_same x y same = cc

pub changed-states-are_held : ChangedStatesAreHeld
changed-states-are_held job entries before after number old new stores held n = record {
  count = length-set stores number new ∙ held.count;
  each = λ k s at. ⊎_elim
      (λ (same : k ≡ number).
      let is : new ≡ s = some_same new s (sym (set_same stores number new old n.store_is) ∙ ap (slice_get (slice_set stores number new)) (sym same) ∙ at) in
      subst (λ j. HoldsArray job entries j (values_in after j) (any_tree s) (any_grid s)) (sym same)
      (subst (λ u. HoldsArray job entries number (values_in after number) (any_tree u) (any_grid u)) is
      (changed-stores-hold job entries number (values_in before number) (values_in after number) old new (held.each number old n.store_is) n.values)))
      (λ (other : k ≢ number).
      subst (λ vs. HoldsArray job entries k vs (any_tree s) (any_grid s)) (sym (n.others k other)) (held.each k s (sym (set_other stores number k new other) ∙ at)))
      (cases_eq k number);
}
