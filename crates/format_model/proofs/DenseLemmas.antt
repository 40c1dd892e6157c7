-- A part that is stored whole, by rows or by columns.
use Rattle.std.proofs.Common.{◌≡◌, ℕ, ◌+◌, ◌*◌, ◌/◌, ◌%◌, ◌<◌, map, sym, ap, ◌∙◌, subst, refl, arith}
use Rattle.std.specs.List.{range_with_len}
use Rattle.std.specs.List.Sorted.{IsPermutation}
use Rattle.std.proofs.Math.Nat.{div-one, mod-one}
use Rattle.std.proofs.lemmas.List.Folds.{flat_map-map}
use Rattle.std.proofs.lemmas.List.Sorted.{IsPermutation-refl}
use Rattle.std.proofs.lemmas.Nat.{div-mul-add, mod-mul-add}
use Rattle.std.proofs.lemmas.Simd.{map-map}
use Rattle.bern_base.proofs.SumLemmas.{All-range}
use Rattle.bern_base.specs.Matrix.{element}
use Rattle.bern_base.specs.declared.axes.Axis.{Axis}
use Rattle.bern_base.specs.declared.axes.Axis.TheVariants as axis
use Rattle.bern_base.specs.declared.matrix.Entry.{Entry}
use Rattle.bern_base.specs.declared.matrix.Matrix.{Matrix}
use Rattle.format_model.specs.Axes.{across, value_on}
use Rattle.format_model.specs.Content.{One, Two, all_lines, full_line}
use Rattle.format_model.specs.Elements.{elements_on, entry_at, leaf_element, line_element, line_elements}
use Rattle.format_model.specs.Laws.{IsSide}
use Rattle.format_model.specs.Stored.{all_elements, element_at}
use Rattle.format_model.proofs.GridLemmas.{flat_map_same, grid, grid-exchanged, map-by_rows, map_same}

-- the element of a matrix at a row and column
abbrev pub element_by : Matrix → ℕ → ℕ → Entry
element_by m row col = entry_at row col (element m.cols m.entries (row * m.cols + col))

pub element_at-number : (m : Matrix) (row col : ℕ) → col < m.cols → element_at m (row * m.cols + col) ≡ element_by m row col
element_at-number m row col below =
    ap (λ r. entry_at r ((row * m.cols + col) % m.cols) (element m.cols m.entries (row * m.cols + col))) (div-mul-add row m.cols col below)
    ∙ ap (λ c. entry_at row c (element m.cols m.entries (row * m.cols + col))) (mod-mul-add row m.cols col below)

pub rows_of : (m : Matrix) → all_elements m ≡ grid (element_by m) (range_with_len 0 m.rows) (range_with_len 0 m.cols)
rows_of m =
    map-by_rows (element_at m) m.rows m.cols
    ∙ flat_map_same (λ r. map (λ c. element_at m (r * m.cols + c)) (range_with_len 0 m.cols)) (λ r. map (element_by m r) (range_with_len 0 m.cols)) (range_with_len 0 m.rows)
    (All-range (λ r. map (λ c. element_at m (r * m.cols + c)) (range_with_len 0 m.cols) ≡ map (element_by m r) (range_with_len 0 m.cols)) m.rows
    (λ r inside. map_same (λ c. element_at m (r * m.cols + c)) (element_by m r) (range_with_len 0 m.cols) (All-range (λ c. element_at m (r * m.cols + c) ≡ element_by m r c) m.cols (λ c below. element_at-number m r c below))))

lines_of_all : (outer : Axis) (m : Matrix) → elements_on outer m.cols (Two (map (full_line outer m) (all_lines outer m))) ≡
    grid (λ l i. line_element outer l (i, value_on outer m l i)) (all_lines outer m) (all_lines (across outer) m)
lines_of_all outer m =
    flat_map-map (line_elements outer) (full_line outer m) (all_lines outer m)
    ∙ flat_map_same (λ l. line_elements outer (full_line outer m l)) (λ l. map (λ i. line_element outer l (i, value_on outer m l i)) (all_lines (across outer) m)) (all_lines outer m)
    (λ k d within. map-map (line_element outer _) (λ i. (i, value_on outer m _ i)) (all_lines (across outer) m))

pub dense-permutation : (outer : Axis) (m : Matrix) → IsSide outer → IsPermutation (all_elements m) (elements_on outer m.cols (Two (map (full_line outer m) (all_lines outer m))))
dense-permutation axis.Row m side = subst (λ ys. IsPermutation (all_elements m) ys) (rows_of m ∙ sym (lines_of_all axis.Row m)) (IsPermutation-refl (all_elements m))
dense-permutation axis.Col m side =
    subst (λ ys. IsPermutation (all_elements m) ys) (sym (lines_of_all axis.Col m))
    (subst (λ xs. IsPermutation xs (grid (λ c r. element_by m r c) (range_with_len 0 m.cols) (range_with_len 0 m.rows))) (sym (rows_of m))
    (grid-exchanged (element_by m) (range_with_len 0 m.rows) (range_with_len 0 m.cols)))
dense-permutation axis.Both m side = absurd (side refl)

-- ---- one column

number_in_one : (cols n : ℕ) → cols ≡ 1 → n / cols ≡ n
number_in_one cols n one = rw one (div-one n)

pub vector_element : (m : Matrix) (n : ℕ) → m.cols ≡ 1 → element_at m n ≡ leaf_element axis.Row m.cols (n, value_on axis.Row m n 0)
vector_element m n one =
    let place : n * m.cols + 0 ≡ n = ap (λ c. n * c + 0) one ∙ omega arith in
    ap (λ r. entry_at r (n % m.cols) (element m.cols m.entries n)) (number_in_one m.cols n one)
    ∙ ap (λ c. entry_at n c (element m.cols m.entries n)) (ap (λ c. n % c) one ∙ mod-one n)
    ∙ ap (λ k. entry_at n 0 (element m.cols m.entries k)) (sym place)

pub vector_elements : (m : Matrix) → m.cols ≡ 1 → all_elements m ≡ elements_on axis.Row m.cols (One (map (λ row. (row, value_on axis.Row m row 0)) (all_lines axis.Row m)))
vector_elements m one =
    let count : m.rows * m.cols ≡ m.rows = ap (λ c. m.rows * c) one ∙ omega arith in
    ap (λ n. map (element_at m) (range_with_len 0 n)) count
    ∙ map_same (element_at m) (λ n. leaf_element axis.Row m.cols (n, value_on axis.Row m n 0)) (range_with_len 0 m.rows) (λ k d within. vector_element m _ one)
    ∙ sym (map-map (leaf_element axis.Row m.cols) (λ row. (row, value_on axis.Row m row 0)) (range_with_len 0 m.rows))
