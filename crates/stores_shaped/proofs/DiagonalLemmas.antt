-- What the calls of a diagonal store read, and that its arrays describe the part.
use Rattle.std.proofs.Common.{◌≡◌, ℕ, zero, suc, ◌+◌, ◌-◌, ◌^◌, ◌<◌, ◌≤◌, List, [], ◌∷◌, ◌++◌, length, length-append, map, get_or, take, drop, Some, None, ℤ, pos, refl, sym, ap, ◌∙◌, subst, add-one, arith}
use Rattle.std.specs.List.{All, AllPairs, flat_map, range_with_len, slice_get}
use Rattle.std.specs.Prelude.{◌<ℤ◌}
use Rattle.std.proofs.lemmas.Grind.{flat_map-append}
use Rattle.std.proofs.lemmas.List.{append-nil, get_or-map, length-map}
use Rattle.std.proofs.lemmas.List.Concat.{get_or-flat_map}
use Rattle.std.proofs.lemmas.List.FromFn.{fill_by_all, get_or-map-range_with_len, get_or-range_with_len, length-map-range_with_len, length-range_with_len}
use Rattle.std.proofs.lemmas.Simd.{map-map}
use Rattle.bern_base.specs.declared.axes.Axis.TheVariants as axis
use Rattle.bern_base.specs.declared.matrix.Matrix.{Matrix}
use Rattle.bern_base.specs.declared.shape.Shape.TheVariants as shape
use Rattle.format_model.specs.Axes.{value_on}
use Rattle.format_model.specs.Content.{Two, diagonal_columns, diagonal_line}
use Rattle.format_model.specs.Levels.{bits}
use Rattle.format_model.specs.Trees.{Describes, IsParent, child_at, weight_at}
use Rattle.stores_packed.specs.Packed.{placed}
use Rattle.stores_packed.proofs.RangeLemmas.{range_more, range_same}
use Rattle.stores_packed.proofs.TreeLemmas.{dense_found, dense_none, length-placed, placed_at}
use Rattle.stores_shaped.specs.Crossings.{AreWindows, HasValues, crossed, row_values}
use Rattle.stores_shaped.specs.Diagonals.{IsDiagonal, IsOffset, column_on, diagonal_children, diagonal_index, diagonal_start, diagonal_tree, offset_at}
use Rattle.stores_shaped.proofs.CrossingLemmas.{crossed_at, length_crossed, window_columns}

-- the line of a row
pub record IsDiagonalLine (offsets : List ℤ) (globals firsts starts values : List ℕ) (level parent : ℕ) : Type 0 where
  pub there : parent < length globals
  pub begin : diagonal_start starts level parent ≡ get_or starts parent 0
  pub order : get_or starts parent 0 ≤ get_or starts (parent + 1) 0
  pub within : get_or starts (parent + 1) 0 ≤ length values
  pub children : diagonal_children offsets globals firsts starts level parent ≡ placed (diagonal_index offsets globals firsts starts parent) (get_or starts parent 0) (get_or starts (parent + 1) 0 - get_or starts parent 0)
  pub count : length (diagonal_children offsets globals firsts starts level parent) ≡ get_or starts (parent + 1) 0 - get_or starts parent 0
  pub weight : weight_at (diagonal_tree offsets globals firsts starts values) level parent ≡ bits (length (diagonal_children offsets globals firsts starts level parent))

pub line_of_row : (cols : ℕ) (offsets : List ℤ) (globals firsts starts values : List ℕ) (level parent : ℕ) → IsDiagonal cols offsets globals firsts starts values
    → 0 < level → IsParent (diagonal_tree offsets globals firsts starts values) level parent → IsDiagonalLine offsets globals firsts starts values level parent
line_of_row cols offsets globals firsts starts values zero parent d later is = absurd (omega arith)
line_of_row cols offsets globals firsts starts values (suc zero) parent d later is = record {
  there = is.1;
  begin = refl;
  order = d.order parent is.1;
  within = d.within parent is.1;
  children = refl;
  count = length-placed (diagonal_index offsets globals firsts starts parent) (get_or starts parent 0) (get_or starts (parent + 1) 0 - get_or starts parent 0);
  weight = refl;
}
line_of_row cols offsets globals firsts starts values (suc (suc level)) parent d later is = absurd (omega (arith, is.0))

pub entry_of_row : (cols : ℕ) (offsets : List ℤ) (globals firsts starts values : List ℕ) (level parent from place : ℕ) → IsDiagonal cols offsets globals firsts starts values
    → 0 < level → IsParent (diagonal_tree offsets globals firsts starts values) level parent → from ≡ diagonal_start starts level parent
    → from ≤ place → place < from + length (diagonal_children offsets globals firsts starts level parent)
    → slice_get (diagonal_children offsets globals firsts starts level parent) (place - from) ≡ Some (diagonal_index offsets globals firsts starts parent place, place)
entry_of_row cols offsets globals firsts starts values level parent from place d later is begins low high =
    let line = line_of_row cols offsets globals firsts starts values level parent d later is in
    let index : ℕ → ℕ = diagonal_index offsets globals firsts starts parent in
    let start : ℕ = get_or starts parent 0 in
    let at : from ≡ start = begins ∙ line.begin in
    let count : ℕ = get_or starts (parent + 1) 0 - start in
    ap (λ cs. slice_get cs (place - from)) line.children ∙ ap (λ a. slice_get (placed index start count) (place - a)) at
    ∙ placed_at index start count place (omega arith) (omega (arith, line.count, at))

-- ---- level 0

pub root_count : (offsets : List ℤ) (globals firsts starts : List ℕ) (level parent : ℕ) → level ≤ 0 → length (diagonal_children offsets globals firsts starts level parent) ≡ length globals
root_count offsets globals firsts starts zero parent first = length-placed (λ k. k) 0 (length globals)
root_count offsets globals firsts starts (suc level) parent first = absurd (omega arith)

pub root_entry : (offsets : List ℤ) (globals firsts starts : List ℕ) (level parent from place : ℕ) → level ≤ 0 → from ≡ diagonal_start starts level parent → from ≤ place
    → place < from + length (diagonal_children offsets globals firsts starts level parent) → slice_get (diagonal_children offsets globals firsts starts level parent) (place - from) ≡ Some (place, place)
root_entry offsets globals firsts starts zero parent from place first begins low high =
    let long : length (placed (λ k. k) 0 (length globals)) ≡ length globals = length-placed (λ k. k) 0 (length globals) in
    ap (λ a. slice_get (placed (λ k. k) 0 (length globals)) (place - a)) begins ∙ placed_at (λ k. k) 0 (length globals) place (omega arith) (omega (arith, begins, long))
root_entry offsets globals firsts starts (suc level) parent from place first begins low high = absurd (omega arith)

pub root_found : (offsets : List ℤ) (globals firsts starts : List ℕ) (level parent index : ℕ) → level ≤ 0 → index < length globals → Some index ≡ child_at (diagonal_children offsets globals firsts starts level parent) index
root_found offsets globals firsts starts zero parent index first below = dense_found (length globals) index below
root_found offsets globals firsts starts (suc level) parent index first below = absurd (omega arith)

pub root_none : (offsets : List ℤ) (globals firsts starts : List ℕ) (level parent index : ℕ) → level ≤ 0 → length globals ≤ index → None ≡ child_at (diagonal_children offsets globals firsts starts level parent) index
root_none offsets globals firsts starts zero parent index first past = dense_none (length globals) index past
root_none offsets globals firsts starts (suc level) parent index first past = absurd (omega arith)

pub root_start : (starts : List ℕ) (level parent : ℕ) → level ≤ 0 → diagonal_start starts level parent ≡ 0
root_start starts zero parent first = refl
root_start starts (suc level) parent first = absurd (omega arith)

pub root_weight : (offsets : List ℤ) (globals firsts starts values : List ℕ) (level parent : ℕ) → level ≤ 0 → weight_at (diagonal_tree offsets globals firsts starts values) level parent ≡ 1
root_weight offsets globals firsts starts values zero parent first = refl
root_weight offsets globals firsts starts values (suc level) parent first = absurd (omega arith)

-- ---- values

-- the rows before one fill the places before its start
values_before : (m : Matrix) (cols : ℕ) (offsets : List ℤ) (globals firsts starts : List ℕ) → AreWindows cols offsets globals (length globals) firsts starts
    → (row : ℕ) → row ≤ length globals → length (flat_map (row_values m offsets globals firsts starts) (range_with_len 0 row)) ≡ get_or starts row 0
values_before m cols offsets globals firsts starts a zero low = sym a.begin
values_before m cols offsets globals firsts starts a (suc row) low =
    let f : ℕ → List ℕ = row_values m offsets globals firsts starts in
    let h : length (flat_map f (range_with_len 0 row)) ≡ get_or starts row 0 = values_before m cols offsets globals firsts starts a row (omega arith) in
    let last : row + 1 ≡ suc row = add-one row in
    let count : ℕ = get_or starts (row + 1) 0 - get_or starts row 0 in
    let w = a.windows row (omega arith) in
    let long : length (f row) ≡ count = length-map (crossed offsets firsts starts row) (λ offset. value_on axis.Row m row (column_on (get_or globals row 0) offset)) ∙ length_crossed cols offsets (get_or globals row 0) (get_or firsts row 0) count w in
    let more : flat_map f (range_with_len 0 (suc row)) ≡ flat_map f (range_with_len 0 row) ++ f row =
    ap (flat_map f) (range_more 0 row row (omega arith)) ∙ flat_map-append f (range_with_len 0 row) (row ∷ []) ∙ ap (λ xs. flat_map f (range_with_len 0 row) ++ xs) (append-nil (f row)) in
    let up : get_or starts row 0 ≤ get_or starts (row + 1) 0 = a.order row (omega arith) in
    ap length more ∙ omega (arith, length-append (flat_map f (range_with_len 0 row)) (f row), h, long, up) ∙ ap (λ n. get_or starts n 0) last

pub rows_more : (f : ℕ → List ℕ) (row : ℕ) → flat_map f (range_with_len 0 (row + 1)) ≡ flat_map f (range_with_len 0 row) ++ f row
rows_more f row =
    ap (λ n. flat_map f (range_with_len 0 n)) (add-one row)
    ∙ ap (flat_map f) (range_more 0 row row (omega arith)) ∙ flat_map-append f (range_with_len 0 row) (row ∷ []) ∙ ap (λ xs. flat_map f (range_with_len 0 row) ++ xs) (append-nil (f row))

-- the slice of the offsets that a row crosses
pub cut_is : (offsets listed : List ℤ) (firsts starts : List ℕ) (row first next start : ℕ) → listed ≡ offsets → first ≡ get_or firsts row 0 → next ≡ get_or starts (row + 1) 0 → start ≡ get_or starts row 0
    → take (first + (next - start) - first) (drop first listed) ≡ crossed offsets firsts starts row
cut_is offsets listed firsts starts row first next start same at_first at_next at_start =
    let count : first + (next - start) - first ≡ get_or starts (row + 1) 0 - get_or starts row 0 = omega (arith, at_next, at_start) in
    ap (λ n. take n (drop first listed)) count
    ∙ ap (λ os. take (get_or starts (row + 1) 0 - get_or starts row 0) (drop first os)) same
    ∙ ap (λ f. take (get_or starts (row + 1) 0 - get_or starts row 0) (drop f offsets)) at_first

take_range : (a n k : ℕ) → k ≤ n → take k (range_with_len a n) ≡ range_with_len a k
take_range a n zero low = refl
take_range a zero (suc k) low = absurd (omega arith)
take_range a (suc n) (suc k) low = ap (λ xs. a ∷ xs) (take_range (a + 1) n k (omega arith))

starts_up : (cols : ℕ) (offsets : List ℤ) (globals firsts starts : List ℕ) → AreWindows cols offsets globals (length globals) firsts starts → (k n : ℕ) → k + n ≤ length globals → get_or starts k 0 ≤ get_or starts (k + n) 0
starts_up cols offsets globals firsts starts a k zero within = let same : k ≡ k + 0 = omega arith in subst (λ j. get_or starts k 0 ≤ get_or starts j 0) same (omega arith)
starts_up cols offsets globals firsts starts a k (suc n) within =
    let h : get_or starts k 0 ≤ get_or starts (k + n) 0 = starts_up cols offsets globals firsts starts a k n (omega arith) in
    let up : get_or starts (k + n) 0 ≤ get_or starts (k + n + 1) 0 = a.order (k + n) (omega arith) in
    let same : k + n + 1 ≡ k + suc n = omega arith in
    subst (λ j. get_or starts k 0 ≤ get_or starts j 0) same (omega (arith, h, up))

pub values_long : (m : Matrix) (cols : ℕ) (offsets : List ℤ) (globals firsts starts values : List ℕ) → AreWindows cols offsets globals (length globals) firsts starts
    → HasValues m offsets globals firsts starts values → (row : ℕ) → row < length globals → get_or starts (row + 1) 0 ≤ length values
values_long m cols offsets globals firsts starts values a has row low =
    let all : length values ≡ get_or starts (length globals) 0 = ap length has ∙ values_before m cols offsets globals firsts starts a (length globals) (omega arith) in
    let rest : row + 1 + (length globals - (row + 1)) ≡ length globals = omega arith in
    let up : get_or starts (row + 1) 0 ≤ get_or starts (row + 1 + (length globals - (row + 1))) 0 = starts_up cols offsets globals firsts starts a (row + 1) (length globals - (row + 1)) (omega arith) in
    omega (arith, all, up, ap (λ n. get_or starts n 0) rest)

-- the arrays that a build makes
pub diagonal_of : (m : Matrix) (offsets : List ℤ) (globals firsts starts values : List ℕ) → m.cols < 2 ^ 32 → length globals < 2 ^ 32 → AllPairs (λ a b. a <ℤ b) offsets → All IsOffset offsets
    → AreWindows m.cols offsets globals (length globals) firsts starts → HasValues m offsets globals firsts starts values → IsDiagonal m.cols offsets globals firsts starts values
diagonal_of m offsets globals firsts starts values narrow few rise small a has = record {
  rise = rise;
  small = small;
  narrow = narrow;
  few = few;
  firsts_long = a.firsts_long;
  starts_long = a.starts_long;
  order = a.order;
  within = values_long m m.cols offsets globals firsts starts values a has;
  windows = a.windows;
}

-- the value at a place of a row
value_at_place : (m : Matrix) (cols : ℕ) (offsets : List ℤ) (globals firsts starts values : List ℕ) → AreWindows cols offsets globals (length globals) firsts starts
    → HasValues m offsets globals firsts starts values → (row j : ℕ) → row < length globals → j < get_or starts (row + 1) 0 - get_or starts row 0
    → get_or values (get_or starts row 0 + j) 0 ≡ value_on axis.Row m row (column_on (get_or globals row 0) (offset_at offsets (get_or firsts row 0 + j)))
value_at_place m cols offsets globals firsts starts values a has row j low below =
    let f : ℕ → List ℕ = row_values m offsets globals firsts starts in
    let rows : List ℕ = range_with_len 0 (length globals) in
    let count : ℕ = get_or starts (row + 1) 0 - get_or starts row 0 in
    let w = a.windows row low in
    let h : ℤ → ℕ = λ offset. value_on axis.Row m row (column_on (get_or globals row 0) offset) in
    let cut : length (crossed offsets firsts starts row) ≡ count = length_crossed cols offsets (get_or globals row 0) (get_or firsts row 0) count w in
    let here : get_or rows row 0 ≡ row = omega (arith, get_or-range_with_len 0 (length globals) row 0 low) in
    let start : length (flat_map f (take row rows)) ≡ get_or starts row 0 = ap (λ xs. length (flat_map f xs)) (take_range 0 (length globals) row (omega arith)) ∙ values_before m cols offsets globals firsts starts a row (omega arith) in
    let long : length (f (get_or rows row 0)) ≡ count = ap (λ r. length (f r)) here ∙ length-map (crossed offsets firsts starts row) h ∙ cut in
    ap (λ xs. get_or xs (get_or starts row 0 + j) 0) has
    ∙ ap (λ n. get_or (flat_map f rows) (n + j) 0) (sym start)
    ∙ get_or-flat_map f rows row j 0 0 (omega (arith, length-range_with_len 0 (length globals))) (omega (arith, long))
    ∙ ap (λ r. get_or (f r) j 0) here
    ∙ get_or-map h (crossed offsets firsts starts row) j (pos 0) 0 (omega (arith, cut))
    ∙ ap h (crossed_at offsets (get_or firsts row 0) count j (pos 0) below w.within)

row_leaves : (m : Matrix) (offsets : List ℤ) (globals firsts starts values : List ℕ) → AreWindows m.cols offsets globals (length globals) firsts starts
    → HasValues m offsets globals firsts starts values → (row : ℕ) → row < length globals
    → map {B = ℕ × ℕ} (λ c. (c.0, get_or values c.1 0)) (placed (diagonal_index offsets globals firsts starts row) (get_or starts row 0) (get_or starts (row + 1) 0 - get_or starts row 0))
    ≡ map {B = ℕ × ℕ} (λ col. (col, value_on axis.Row m row col)) (diagonal_columns m.cols offsets (get_or globals row 0))
row_leaves m offsets globals firsts starts values a has row low =
    let g : ℕ = get_or globals row 0 in
    let first : ℕ = get_or firsts row 0 in
    let start : ℕ = get_or starts row 0 in
    let count : ℕ = get_or starts (row + 1) 0 - start in
    let w = a.windows row low in
    let f : ℕ → ℕ = diagonal_index offsets globals firsts starts row in
    let leaf : ℕ → ℕ × ℕ = λ p. (f p, get_or values p 0) in
    let by : ℕ → ℕ × ℕ = λ j. leaf (start + j) in
    let h : ℤ → ℕ × ℕ = λ o. (column_on g o, value_on axis.Row m row (column_on g o)) in
    let cut : length (crossed offsets firsts starts row) ≡ count = length_crossed m.cols offsets g first count w in
    let read : ℕ × ℕ → ℕ × ℕ = λ c. (c.0, get_or values c.1 0) in
    let at : ℕ → ℕ × ℕ = λ col. (col, value_on axis.Row m row col) in
    map-map read (λ k. (f k, k)) (range_with_len start count)
    ∙ fill_by_all by (map leaf (range_with_len start count)) count (0, 0) (length-map-range_with_len leaf start count) (λ j below. get_or-map-range_with_len leaf start count j (start + j) (0, 0) below refl)
    ∙ sym (ap (map at) (window_columns m.cols offsets g first count w)
    ∙ map-map at (column_on g) (crossed offsets firsts starts row)
    ∙ fill_by_all by (map h (crossed offsets firsts starts row)) count (0, 0) (length-map (crossed offsets firsts starts row) h ∙ cut)
    (λ j below.
    let back : start + j - start ≡ j = omega arith in
    get_or-map h (crossed offsets firsts starts row) j (pos 0) (0, 0) (omega (arith, cut))
    ∙ ap h (crossed_at offsets first count j (pos 0) below w.within)
    ∙ ap (λ v. (column_on g (offset_at offsets (first + j)), v)) (sym (value_at_place m m.cols offsets globals firsts starts values a has row j low below))
    ∙ ap (λ i. (column_on g (offset_at offsets (first + i)), get_or values (start + j) 0)) (sym back)))

pub diagonal_describes : (m : Matrix) (offsets : List ℤ) (globals firsts starts values : List ℕ) → length globals ≡ m.rows → AreWindows m.cols offsets globals (length globals) firsts starts
    → HasValues m offsets globals firsts starts values → (order : List ℕ) → Describes (diagonal_tree offsets globals firsts starts values) (shape.Diagonal offsets) globals order m
diagonal_describes m offsets globals firsts starts values rows a has order =
    let below : ℕ → List (ℕ × ℕ) = λ k. map {B = ℕ × ℕ} (λ c. (c.0, get_or values c.1 0)) (placed (diagonal_index offsets globals firsts starts k) (get_or starts k 0) (get_or starts (k + 1) 0 - get_or starts k 0)) in
    let line : ℕ × ℕ → ℕ × List (ℕ × ℕ) = λ c. (c.0, below c.1) in
    let here : ℕ → ℕ × List (ℕ × ℕ) = λ k. (k, below k) in record {
      levels = refl;
      content = ap Two
          (map-map line (λ k. (k, k)) (range_with_len 0 (length globals))
          ∙ range_same here (diagonal_line offsets globals m) 0 (length globals) (λ k low high. ap (λ ls. (k, ls)) (row_leaves m offsets globals firsts starts values a has k (omega arith)))
          ∙ ap (λ n. map (diagonal_line offsets globals m) (range_with_len 0 n)) rows);
    }
