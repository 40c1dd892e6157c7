-- The lines of a format, turned back into elements, are the entries dealt out to these lines.
use Rattle.std.specs.Prelude.{slice_index_or}
use Rattle.std.proofs.Common.{◌≡◌, ℕ, ◌<◌, Bool, true, false, cond, ◌==◌, List, [], ◌∷◌, ◌++◌, map, filter, All, sym, ap, ◌∙◌, subst, refl, ⊎_elim, arith}
use Rattle.std.specs.List.{flat_map, list_any, range_with_len}
use Rattle.std.specs.List.Sorted.{IsPermutation}
use Rattle.std.proofs.lemmas.Bool.{cond-true, cond-false, eq-eqb, eqb-true, ne_eqb, cases_eq}
use Rattle.std.proofs.lemmas.List.Elements.{All-weaker, filter_passes}
use Rattle.std.proofs.lemmas.List.Folds.{flat_map-map, map_fixed, list_any_at}
use Rattle.std.proofs.lemmas.List.Sums.{sum_by-cons}
use Rattle.std.proofs.lemmas.Simd.{map-map}
use Rattle.bern_base.proofs.SumLemmas.{sum_by_one}
use Rattle.bern_base.specs.Matrix.{IsInside, IsMatrix}
use Rattle.bern_base.specs.declared.axes.Axis.{Axis}
use Rattle.bern_base.specs.declared.axes.Axis.TheVariants as axis
use Rattle.bern_base.specs.declared.matrix.Entry.{Entry}
use Rattle.bern_base.specs.declared.matrix.Matrix.{Matrix}
use Rattle.format_model.specs.Axes.{across, extent_of, index_of}
use Rattle.format_model.specs.Content.{Two, all_lines, filled_lines, in_line, leaf_on, lines_of}
use Rattle.format_model.specs.Elements.{elements_on, line_element, line_elements}
use Rattle.format_model.specs.Laws.{IsSide}
use Rattle.format_model.proofs.LineLemmas.{count_of, dealt, dealt-permutation}

pub row_side : IsSide axis.Row
row_side same = cc

-- an entry is the element of its line, of its index across and of its value
entry_back : (a : Axis) (cols l : ℕ) (e : Entry) → IsSide a → index_of a cols e ≡ l → line_element a l (leaf_on (across a) cols e) ≡ e
entry_back axis.Row cols l e side here = ap (λ r. record { row = r; col = e.col; value = e.value }) (sym here)
entry_back axis.Col cols l e side here = ap (λ c. record { row = e.row; col = c; value = e.value }) (sym here)
entry_back axis.Both cols l e side here = absurd (side refl)

line_back : (a : Axis) (cols l : ℕ) (es : List Entry) → IsSide a → map (line_element a l) (map (leaf_on (across a) cols) (in_line a cols l es)) ≡ in_line a cols l es
line_back a cols l es side =
    map-map (line_element a l) (leaf_on (across a) cols) (in_line a cols l es)
    ∙ map_fixed (λ e. line_element a l (leaf_on (across a) cols e)) (in_line a cols l es)
    (All-weaker (λ e. (index_of a cols e == l) ≡ true) (λ e. line_element a l (leaf_on (across a) cols e) ≡ e) (λ e passes. entry_back a cols l e side (eqb-true (index_of a cols e) l passes)) (in_line a cols l es)
    (filter_passes (λ e. index_of a cols e == l) es))

lines_back : (a : Axis) (cols : ℕ) (es : List Entry) (lines : List ℕ) → IsSide a →
    flat_map (λ l. map (line_element a l) (map (leaf_on (across a) cols) (in_line a cols l es))) lines ≡ dealt (index_of a cols) es lines
lines_back a cols es [] side = refl
lines_back a cols es (l ∷ lines) side =
    ap (λ xs. xs ++ flat_map (λ k. map (line_element a k) (map (leaf_on (across a) cols) (in_line a cols k es))) lines) (line_back a cols l es side)
    ∙ ap (λ xs. in_line a cols l es ++ xs) (lines_back a cols es lines side)

pub elements-lines_of : (a : Axis) (m : Matrix) (lines : List ℕ) → IsSide a → elements_on a m.cols (Two (lines_of a m lines)) ≡ dealt (index_of a m.cols) m.entries lines
elements-lines_of a m lines side =
    flat_map-map (line_elements a) (λ l. (l, map (leaf_on (across a) m.cols) (in_line a m.cols l m.entries))) lines ∙ lines_back a m.cols m.entries lines side

-- where each entry's line is among these once, they list each entry once
pub lines-permutation : (a : Axis) (m : Matrix) (lines : List ℕ) → IsSide a → All (λ e. count_of (index_of a m.cols e) lines ≡ 1) m.entries →
    IsPermutation m.entries (elements_on a m.cols (Two (lines_of a m lines)))
lines-permutation a m lines side each =
    subst (λ ys. IsPermutation m.entries ys) (sym (elements-lines_of a m lines side)) (dealt-permutation (index_of a m.cols) m.entries lines each)

-- ---- all lines, and those that have an entry

pub once_in_range : (n x : ℕ) → x < n → count_of x (range_with_len 0 n) ≡ 1
once_in_range n x below =
    sum_by_one (λ y. cond (y == x) 1 0) n x below (λ j within other. cond-false {A = ℕ} (j == x) 1 0 (ne_eqb j x other)) ∙ cond-true {A = ℕ} (x == x) 1 0 (eq-eqb x x refl)

-- a line of an entry of a matrix
pub index_inside : (a : Axis) (rows cols : ℕ) (e : Entry) → IsSide a → IsInside rows cols e → index_of a cols e < extent_of a rows cols
index_inside axis.Row rows cols e side inside = inside.0
index_inside axis.Col rows cols e side inside = inside.1
index_inside axis.Both rows cols e side inside = absurd (side refl)

pub in_all_lines : (a : Axis) (m : Matrix) → IsSide a → IsMatrix m → All (λ e. count_of (index_of a m.cols e) (all_lines a m) ≡ 1) m.entries
in_all_lines a m side is =
    All-weaker (IsInside m.rows m.cols) (λ e. count_of (index_of a m.cols e) (all_lines a m) ≡ 1)
    (λ e inside. once_in_range (extent_of a m.rows m.cols) (index_of a m.cols e) (index_inside a m.rows m.cols e side inside)) m.entries is.inside

-- a filter keeps a number as often as it was there, where the number passes
pub count-filter : (p : ℕ → Bool) (x : ℕ) (xs : List ℕ) → p x ≡ true → count_of x (filter p xs) ≡ count_of x xs
count-filter p x [] passes = refl
count-filter p x (y ∷ xs) passes =
    let kept : List ℕ = filter p xs in
    let later : count_of x kept ≡ count_of x xs = count-filter p x xs passes in
    let all = sum_by-cons (λ z. cond (z == x) 1 0) y xs in ⊎_elim
    (λ (same : y ≡ x).
    ap (count_of x) (cond-true (p y) (y ∷ kept) kept (ap p same ∙ passes)) ∙ omega (arith, later, all, sum_by-cons (λ z. cond (z == x) 1 0) y kept))
    (λ (other : y ≡ x → ⊥).
    let none : cond (y == x) 1 0 ≡ 0 = cond-false {A = ℕ} (y == x) 1 0 (ne_eqb y x other) in
    elim (p y) as (λ b. count_of x (cond b (y ∷ kept) kept) ≡ count_of x (y ∷ xs)) [
      | true ↦ omega (arith, later, all, sum_by-cons (λ z. cond (z == x) 1 0) y kept)
      | false ↦ omega (arith, later, all, none)
    ])
    (cases_eq y x)

pub in_filled_lines : (a : Axis) (m : Matrix) → IsSide a → IsMatrix m → All (λ e. count_of (index_of a m.cols e) (filled_lines a m) ≡ 1) m.entries
in_filled_lines a m side is k d within =
    let e : Entry = slice_index_or m.entries k d in
    let has : ℕ → Bool = λ l. list_any (λ x. index_of a m.cols x == l) m.entries in
    let filled : has (index_of a m.cols e) ≡ true = list_any_at (λ x. index_of a m.cols x == index_of a m.cols e) m.entries k d within (eq-eqb (index_of a m.cols e) (index_of a m.cols e) refl) in
    count-filter has (index_of a m.cols e) (all_lines a m) filled ∙ in_all_lines a m side is k d within
