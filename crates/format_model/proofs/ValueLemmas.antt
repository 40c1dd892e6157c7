-- At the indices of an element each format lists its value, where it is stored.
use Rattle.std.proofs.Common.{◌≡◌, ℕ, ◌+◌, ◌*◌, ◌/◌, ◌%◌, ◌<◌, Bool, true, false, cond, ◌==◌, ◌&&◌, List, [], ◌∷◌, map, filter, Option, Some, None, ℤ, sym, ap, ◌∙◌, refl, ⊎_elim, arith}
use Rattle.std.specs.List.{AllPairs, find, list_any, range_with_len}
use Rattle.std.specs.Option.{option_and_then, option_map}
use Rattle.std.specs.Prelude.{◌<ℤ◌, slice_index}
use Rattle.std.proofs.lemmas.Bool.{and_from, and_parts, cases_Bool, cases_eq, eq-eqb, eqb-true, false_from_ne_true, ne_eqb}
use Rattle.std.proofs.lemmas.List.Elements.{All-weaker}
use Rattle.std.proofs.lemmas.List.Sorted.{sum_by-IsPermutation}
use Rattle.std.proofs.lemmas.Nat.{div-add-mod', div-mul-add, mod-mul-add, mul-add-lt, same_from_place}
use Rattle.bern_base.specs.Matrix.{IsInside, IsMatrix, element, number}
use Rattle.bern_base.specs.declared.axes.Axis.{Axis}
use Rattle.bern_base.specs.declared.axes.Axis.TheVariants as axis
use Rattle.bern_base.specs.declared.matrix.Entry.{Entry}
use Rattle.bern_base.specs.declared.matrix.Matrix.{Matrix}
use Rattle.format_model.specs.Axes.{across, index_of, value_on}
use Rattle.format_model.specs.Content.{One, Two, all_lines, diagonal_columns, diagonal_line, filled_lines, full_line, in_line, leaf_on, lines_of}
use Rattle.format_model.specs.Elements.{entry_at, value_among, value_at}
use Rattle.format_model.specs.Laws.{IsSide}
use Rattle.format_model.specs.Stored.{all_elements, element_at, is_on_diagonal, stands_at}
use Rattle.format_model.specs.Trees.{child_at}
use Rattle.format_model.proofs.ContentLemmas.{count-filter, index_inside, once_in_range}
use Rattle.format_model.proofs.DiagonalLemmas.{row_columns}
use Rattle.format_model.proofs.LineLemmas.{count_of}
use Rattle.format_model.proofs.LookupLemmas.{col_value, find-filter, find_only, found_nowhere, found_once, leaf_value, line_without, row_value}
use Rattle.format_model.proofs.OrderLemmas.{count-filter_none}

-- the indices of an element, line first
abbrev pub line_path : Axis → ℕ → ℕ → ℕ → List ℕ
line_path a cols row col = index_of a cols (entry_at row col 0) ∷ index_of (across a) cols (entry_at row col 0) ∷ []

-- ---- lines with their entries

below_line : (f : ℕ → List (ℕ × ℕ)) (x y : ℕ) (lines : List ℕ) → count_of x lines ≡ 1 → value_at (Two (map (λ l. (l, f l)) lines)) (x ∷ y ∷ []) ≡ child_at (f x) y
below_line f x y lines once = ap (option_and_then (λ leaves. child_at leaves y)) (found_once f x lines once)

no_line : (f : ℕ → List (ℕ × ℕ)) (x y : ℕ) (lines : List ℕ) → count_of x lines ≡ 0 → value_at (Two (map (λ l. (l, f l)) lines)) (x ∷ y ∷ []) ≡ None
no_line f x y lines none = ap (option_and_then (λ leaves. child_at leaves y)) (found_nowhere f x lines none)

in_its_line : (a : Axis) (cols row col : ℕ) (es : List Entry) → IsSide a →
    child_at (map (leaf_on (across a) cols) (in_line a cols (index_of a cols (entry_at row col 0)) es)) (index_of (across a) cols (entry_at row col 0)) ≡ value_among es row col
in_its_line axis.Row cols row col es side = row_value cols row col es
in_its_line axis.Col cols row col es side = col_value cols row col es
in_its_line axis.Both cols row col es side = absurd (side refl)

pub line_value : (a : Axis) (m : Matrix) (lines : List ℕ) (row col : ℕ) → IsSide a → count_of (index_of a m.cols (entry_at row col 0)) lines ≡ 1 →
    value_at (Two (lines_of a m lines)) (line_path a m.cols row col) ≡ value_among m.entries row col
line_value a m lines row col side once =
    below_line (λ l. map (leaf_on (across a) m.cols) (in_line a m.cols l m.entries)) (index_of a m.cols (entry_at row col 0)) (index_of (across a) m.cols (entry_at row col 0)) lines once
    ∙ in_its_line a m.cols row col m.entries side

pub filled_value : (a : Axis) (m : Matrix) (row col : ℕ) → IsSide a → row < m.rows → col < m.cols →
    value_at (Two (lines_of a m (filled_lines a m))) (line_path a m.cols row col) ≡ value_among m.entries row col
filled_value a m row col side high low =
    let line : ℕ = index_of a m.cols (entry_at row col 0) in
    let i : ℕ = index_of (across a) m.cols (entry_at row col 0) in
    let has : ℕ → Bool = λ l. list_any (λ e. index_of a m.cols e == l) m.entries in ⊎_elim
    (λ (filled : has line ≡ true).
    line_value a m (filled_lines a m) row col side (count-filter has line (all_lines a m) filled ∙ once_in_range _ line (index_inside a m.rows m.cols (entry_at row col 0) side (high, low))))
    (λ (empty : has line ≡ false).
    no_line (λ l. map (leaf_on (across a) m.cols) (in_line a m.cols l m.entries)) line i (filled_lines a m) (count-filter_none has line (all_lines a m) empty)
    ∙ ap (λ es. child_at (map (leaf_on (across a) m.cols) es) i) (sym (line_without (λ e. index_of a m.cols e == line) m.entries empty))
    ∙ in_its_line a m.cols row col m.entries side)
    (cases_Bool (has line))

-- ---- entries in one level

and_yes : (b : Bool) → b ≡ (b && true)
and_yes true = refl
and_yes false = refl

pub vector_value : (m : Matrix) (row col : ℕ) → m.cols ≡ 1 → IsMatrix m → col < m.cols → child_at (map (leaf_on axis.Row m.cols) m.entries) row ≡ value_among m.entries row col
vector_value m row col one is low =
    leaf_value axis.Row m.cols row row col m.entries
    (All-weaker (IsInside m.rows m.cols) (λ e. (e.row == row) ≡ stands_at row col e)
    (λ e inside. and_yes (e.row == row) ∙ ap (λ b. e.row == row && b) (sym (eq-eqb e.col col (omega (arith, one, low, inside.1))))) m.entries is.inside)

number_tells : (cols row col : ℕ) (e : Entry) → col < cols → e.col < cols → (number cols e == number cols (entry_at row col 0)) ≡ stands_at row col e
number_tells cols row col e low inside = ⊎_elim
    (λ (same : number cols e ≡ row * cols + col).
    let parts = same_from_place e.row e.col row col cols inside low same in
    eq-eqb (number cols e) (row * cols + col) same ∙ sym (and_from (e.row == row) (e.col == col) (eq-eqb e.row row parts.0) (eq-eqb e.col col parts.1)))
    (λ (other : number cols e ≡ row * cols + col → ⊥).
    ne_eqb (number cols e) (row * cols + col) other
    ∙ sym (false_from_ne_true (stands_at row col e) (λ stands.
    let parts = and_parts (e.row == row) (e.col == col) stands in
    other (ap (λ r. r * cols + e.col) (eqb-true e.row row parts.0) ∙ ap (λ c. row * cols + c) (eqb-true e.col col parts.1)))))
    (cases_eq (number cols e) (row * cols + col))

pub number_value : (m : Matrix) (row col : ℕ) → IsMatrix m → col < m.cols → child_at (map (leaf_on axis.Both m.cols) m.entries) (row * m.cols + col) ≡ value_among m.entries row col
number_value m row col is low =
    leaf_value axis.Both m.cols (row * m.cols + col) row col m.entries
    (All-weaker (IsInside m.rows m.cols) (λ e. (number m.cols e == row * m.cols + col) ≡ stands_at row col e) (λ e inside. number_tells m.cols row col e low inside.1) m.entries is.inside)

-- ---- all elements

all_found : (m : Matrix) (row col : ℕ) → row < m.rows → col < m.cols → find (stands_at row col) (all_elements m) ≡ Some (element_at m (row * m.cols + col))
all_found m row col high low =
    let n : ℕ = row * m.cols + col in
    find_only (element_at m) (stands_at row col) n
    (and_from (n / m.cols == row) (n % m.cols == col) (eq-eqb (n / m.cols) row (div-mul-add row m.cols col low)) (eq-eqb (n % m.cols) col (mod-mul-add row m.cols col low)))
    (λ j stands.
    let parts = and_parts (j / m.cols == row) (j % m.cols == col) stands in
    sym (div-add-mod' j m.cols) ∙ ap (λ r. r * m.cols + j % m.cols) (eqb-true (j / m.cols) row parts.0) ∙ ap (λ c. row * m.cols + c) (eqb-true (j % m.cols) col parts.1))
    0 (m.rows * m.cols) (omega arith) (omega (arith, mul-add-lt row m.cols col m.rows high low))

pub all_value : (m : Matrix) (row col : ℕ) → row < m.rows → col < m.cols → value_among (all_elements m) row col ≡ Some (element m.cols m.entries (row * m.cols + col))
all_value m row col high low = ap (option_map (λ e. e.value)) (all_found m row col high low)

pub dense_value : (a : Axis) (m : Matrix) (row col : ℕ) → IsSide a → row < m.rows → col < m.cols →
    value_at (Two (map (full_line a m) (all_lines a m))) (line_path a m.cols row col) ≡ Some (element m.cols m.entries (row * m.cols + col))
dense_value axis.Row m row col side high low =
    below_line (λ r. map (λ c. (c, value_on axis.Row m r c)) (range_with_len 0 m.cols)) row col (range_with_len 0 m.rows) (once_in_range m.rows row high)
    ∙ found_once (value_on axis.Row m row) col (range_with_len 0 m.cols) (once_in_range m.cols col low)
dense_value axis.Col m row col side high low =
    below_line (λ c. map (λ r. (r, value_on axis.Col m c r)) (range_with_len 0 m.rows)) col row (range_with_len 0 m.cols) (once_in_range m.cols col low)
    ∙ found_once (value_on axis.Col m col) row (range_with_len 0 m.rows) (once_in_range m.rows row high)
dense_value axis.Both m row col side high low = absurd (side refl)

pub dense_vector_value : (m : Matrix) (row col : ℕ) → m.cols ≡ 1 → row < m.rows → col < m.cols →
    value_at (One (map (λ r. (r, value_on axis.Row m r 0)) (all_lines axis.Row m))) (row ∷ []) ≡ Some (element m.cols m.entries (row * m.cols + col))
dense_vector_value m row col one high low =
    let first : 0 ≡ col = omega (arith, one, low) in
    found_once (λ r. value_on axis.Row m r 0) row (range_with_len 0 m.rows) (once_in_range m.rows row high) ∙ ap (λ c. Some (element m.cols m.entries (row * m.cols + c))) first

-- ---- listed diagonals

-- the value there on a listed diagonal, and none off them
abbrev pub diagonal_value : List ℤ → List ℕ → Matrix → ℕ → ℕ → Option ℕ
diagonal_value offsets globals m row col = cond (is_on_diagonal offsets (slice_index globals row) col) (Some (element m.cols m.entries (row * m.cols + col))) None

among_columns : (cols g col : ℕ) (offsets : List ℤ) → AllPairs (λ a b. a <ℤ b) offsets → col < cols → count_of col (diagonal_columns cols offsets g) ≡ cond (is_on_diagonal offsets g col) 1 0
among_columns cols g col offsets rise low =
    let on : ℕ → Bool = is_on_diagonal offsets g in
    sum_by-IsPermutation (λ c. cond (c == col) 1 0) (filter on (range_with_len 0 cols)) (diagonal_columns cols offsets g) (row_columns cols g offsets rise)
    ∙ ⊎_elim
    (λ (yes : on col ≡ true). count-filter on col (range_with_len 0 cols) yes ∙ once_in_range cols col low ∙ ap (λ b. cond b 1 0) (sym yes))
    (λ (no : on col ≡ false). count-filter_none on col (range_with_len 0 cols) no ∙ ap (λ b. cond b 1 0) (sym no))
    (cases_Bool (on col))

below_columns : (f : ℕ → ℕ) (x : ℕ) (xs : List ℕ) (b : Bool) → count_of x xs ≡ cond b 1 0 → child_at (map (λ c. (c, f c)) xs) x ≡ cond b (Some (f x)) None
below_columns f x xs true count = found_once f x xs count
below_columns f x xs false count = found_nowhere f x xs count

pub listed_diagonal_value : (offsets : List ℤ) (globals : List ℕ) (m : Matrix) (row col : ℕ) → AllPairs (λ a b. a <ℤ b) offsets → row < m.rows → col < m.cols →
    value_at (Two (map (diagonal_line offsets globals m) (all_lines axis.Row m))) (row ∷ col ∷ []) ≡ diagonal_value offsets globals m row col
listed_diagonal_value offsets globals m row col rise high low =
    let g : ℕ = slice_index globals row in
    below_line (λ r. map (λ c. (c, value_on axis.Row m r c)) (diagonal_columns m.cols offsets (slice_index globals r))) row col (range_with_len 0 m.rows) (once_in_range m.rows row high)
    ∙ below_columns (value_on axis.Row m row) col (diagonal_columns m.cols offsets g) (is_on_diagonal offsets g col) (among_columns m.cols g col offsets rise low)

stored_there : (offsets : List ℤ) (globals : List ℕ) (row col : ℕ) (e : Entry) → stands_at row col e ≡ true → is_on_diagonal offsets (slice_index globals e.row) e.col ≡ is_on_diagonal offsets (slice_index globals row) col
stored_there offsets globals row col e stands =
    let parts = and_parts (e.row == row) (e.col == col) stands in
    ap (λ r. is_on_diagonal offsets (slice_index globals r) e.col) (eqb-true e.row row parts.0) ∙ ap (is_on_diagonal offsets (slice_index globals row)) (eqb-true e.col col parts.1)

value_of_either : (b : Bool) (o : Option Entry) (v : ℕ) → option_map (λ e. e.value) o ≡ Some v → option_map (λ e. e.value) (cond b o None) ≡ cond b (Some v) None
value_of_either true o v is = is
value_of_either false o v is = refl

pub stored_diagonal_value : (offsets : List ℤ) (globals : List ℕ) (m : Matrix) (row col : ℕ) → row < m.rows → col < m.cols →
    value_among (filter (λ e. is_on_diagonal offsets (slice_index globals e.row) e.col) (all_elements m)) row col ≡ diagonal_value offsets globals m row col
stored_diagonal_value offsets globals m row col high low =
    let on : Bool = is_on_diagonal offsets (slice_index globals row) col in
    ap (option_map (λ e. e.value)) (find-filter (stands_at row col) (λ e. is_on_diagonal offsets (slice_index globals e.row) e.col) on (stored_there offsets globals row col) (all_elements m))
    ∙ value_of_either on (find (stands_at row col) (all_elements m)) (element m.cols m.entries (row * m.cols + col)) (all_value m row col high low)
