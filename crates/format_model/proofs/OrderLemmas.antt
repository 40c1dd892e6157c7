-- Each row stands once among the rows by falling count, and once among the local rows of an order.
use Rattle.std.proofs.Common.{◌≡◌, ℕ, ◌+◌, ◌-◌, ◌<◌, ◌≤◌, Bool, true, false, cond, ltb, ◌==◌, List, [], ◌∷◌, length, get_or, filter, All, Option, Some, None, sym, ap, ◌∙◌, subst, refl, ⊎_elim, arith}
use Rattle.std.specs.List.{AllPairs, count_by, cons_option, filter_map, position, position_or_len, range_with_len}
use Rattle.std.proofs.lemmas.Bool.{cond-true, cond-false, eq-eqb, eqb-true, ne_eqb, cases_eq, lt-ltb}
use Rattle.std.proofs.lemmas.List.Elements.{All-weaker}
use Rattle.std.proofs.lemmas.List.Kept.{AllPairs-from_increasing}
use Rattle.std.proofs.lemmas.List.Quantifiers.{position-Some}
use Rattle.std.proofs.lemmas.List.Sorted.{sum_by-IsPermutation}
use Rattle.std.proofs.lemmas.List.Sums.{count_by-le-length, length-filter, position_or_len_is, sum_by-cons}
use Rattle.bern_base.proofs.SumLemmas.{sum_by-flat_map, sum_by_one}
use Rattle.bern_base.specs.Matrix.{IsInside, IsMatrix}
use Rattle.bern_base.specs.declared.axes.Axis.TheVariants as axis
use Rattle.bern_base.specs.declared.matrix.Matrix.{Matrix}
use Rattle.format_model.specs.Content.{all_lines, count_in_row, local_rows, rows_by_count, rows_with}
use Rattle.format_model.specs.Laws.{OrdersRows}
use Rattle.format_model.proofs.ContentLemmas.{count-filter, once_in_range}
use Rattle.format_model.proofs.LineLemmas.{count_of}

-- a filter keeps no number that fails
pub count-filter_none : (p : ℕ → Bool) (x : ℕ) (xs : List ℕ) → p x ≡ false → count_of x (filter p xs) ≡ 0
count-filter_none p x [] fails = refl
count-filter_none p x (y ∷ xs) fails =
    let kept : List ℕ = filter p xs in
    let later : count_of x kept ≡ 0 = count-filter_none p x xs fails in ⊎_elim
    (λ (same : y ≡ x). ap (count_of x) (cond-false (p y) (y ∷ kept) kept (ap p same ∙ fails)) ∙ later)
    (λ (other : y ≡ x → ⊥).
    let none : cond (y == x) 1 0 ≡ 0 = cond-false {A = ℕ} (y == x) 1 0 (ne_eqb y x other) in
    elim (p y) as (λ b. count_of x (cond b (y ∷ kept) kept) ≡ 0) [
      | true ↦ omega (arith, later, none, sum_by-cons (λ z. cond (z == x) 1 0) y kept)
      | false ↦ later
    ])
    (cases_eq y x)

-- ---- rows by falling count

few_in_row : (m : Matrix) (row : ℕ) → count_in_row m row ≤ length m.entries
few_in_row m row = subst (λ n. n ≤ length m.entries) (sym (length-filter (λ e. e.row == row) m.entries)) (count_by-le-length (λ e. e.row == row) m.entries)

pub once_by_count : (m : Matrix) (row : ℕ) → row < m.rows → count_of row (rows_by_count m) ≡ 1
once_by_count m row inside =
    let most : ℕ = length m.entries in
    let count : ℕ = count_in_row m row in
    let few : count ≤ most = few_in_row m row in
    let place : count ≡ most - (most - count) = omega (arith, few) in
    sum_by-flat_map (λ y. cond (y == row) 1 0) (λ k. rows_with m (most - k)) (range_with_len 0 (most + 1))
    ∙ sum_by_one (λ k. count_of row (rows_with m (most - k))) (most + 1) (most - count) (omega (arith, few))
    (λ j within other. count-filter_none (λ r. count_in_row m r == most - j) row (all_lines axis.Row m)
    (ne_eqb count (most - j) (λ same. other (omega (arith, few, within, same)))))
    ∙ count-filter (λ r. count_in_row m r == most - (most - count)) row (all_lines axis.Row m) (eq-eqb count (most - (most - count)) place)
    ∙ once_in_range m.rows row inside

pub in_rows_by_count : (m : Matrix) → IsMatrix m → All (λ e. count_of e.row (rows_by_count m) ≡ 1) m.entries
in_rows_by_count m is = All-weaker (IsInside m.rows m.cols) (λ e. count_of e.row (rows_by_count m) ≡ 1) (λ e inside. once_by_count m e.row inside.0) m.entries is.inside

-- ---- rows in the order of a file

count-cons_option : (x : ℕ) (o : Option ℕ) (xs : List ℕ) → count_of x (cons_option o xs) ≡ count_of x (cons_option o []) + count_of x xs
count-cons_option x None xs = omega arith
count-cons_option x (Some y) xs = omega (arith, sum_by-cons (λ z. cond (z == x) 1 0) y xs, sum_by-cons (λ z. cond (z == x) 1 0) y [])

pub count-filter_map : (h : ℕ → Option ℕ) (p : ℕ → Bool) (x : ℕ) → ((y : ℕ) → count_of x (cons_option (h y) []) ≡ cond (p y) 1 0) → (ys : List ℕ) → count_of x (filter_map h ys) ≡ count_by p ys
count-filter_map h p x each [] = refl
count-filter_map h p x each (y ∷ ys) =
    omega (arith, count-cons_option x (h y) (filter_map h ys), each y, count-filter_map h p x each ys, sum_by-cons (λ z. cond (p z) 1 0) y ys)

-- what counts a result that is this number, and any other
count_some : (x : ℕ) (o : Option ℕ) → o ≡ Some x → count_of x (cons_option o []) ≡ 1
count_some x o is = let one : cond (x == x) 1 0 ≡ 1 = cond-true {A = ℕ} (x == x) 1 0 (eq-eqb x x refl) in rw is (omega (arith, one))

pub count_other : (x : ℕ) (o : Option ℕ) → (o ≡ Some x → ⊥) → count_of x (cons_option o []) ≡ 0
count_other x None other = refl
count_other x (Some y) other = let none : cond (y == x) 1 0 ≡ 0 = cond-false {A = ℕ} (y == x) 1 0 (ne_eqb y x (λ same. other (ap Some same))) in omega (arith, none)

-- the local row of a global one
position_of : (globals : List ℕ) (k : ℕ) → AllPairs (λ x y. x < y) globals → k < length globals → position (λ g. g == get_or globals k 0) globals ≡ Some k
position_of globals k rising within =
    let row : ℕ = get_or globals k 0 in
    let first : position_or_len (λ g. g == row) globals ≡ k = position_or_len_is (λ g. g == row) globals k 0 (omega (arith, within))
    (λ j below. let less : get_or globals j 0 < row = rising j k 0 below within in ne_eqb (get_or globals j 0) row (λ same. omega (arith, same, less)))
    (λ inside. eq-eqb row row refl) in
    rw first (cond-true (ltb k (length globals)) (Some k) None (lt-ltb k (length globals) within))

position_other : (globals : List ℕ) (k row : ℕ) → (row ≡ get_or globals k 0 → ⊥) → position (λ g. g == row) globals ≡ Some k → ⊥
position_other globals k row other found = other (sym (eqb-true (get_or globals k 0) row (position-Some (λ g. g == row) globals k 0 found).1))

pub once_in_order : (globals order : List ℕ) (m : Matrix) (rows k : ℕ) → OrdersRows globals order m rows → k < m.rows → count_of k (local_rows globals order) ≡ 1
once_in_order globals order m rows k orders inside =
    let row : ℕ = get_or globals k 0 in
    let within : k < length globals = subst (λ n. k < n) (sym orders.long) inside in
    let here : ℕ → Option ℕ = λ r. position (λ g. g == r) globals in
    count-filter_map here (λ r. r == row) k
    (λ r. ⊎_elim
    (λ (same : r ≡ row). count_some k (here r) (ap here same ∙ position_of globals k (AllPairs-from_increasing globals orders.rising) within) ∙ sym (cond-true {A = ℕ} (r == row) 1 0 (eq-eqb r row same)))
    (λ (other : r ≡ row → ⊥). count_other k (here r) (position_other globals k r other) ∙ sym (cond-false {A = ℕ} (r == row) 1 0 (ne_eqb r row other)))
    (cases_eq r row))
    order
    ∙ sum_by-IsPermutation (λ r. cond (r == row) 1 0) (range_with_len 0 rows) order orders.each_once
    ∙ once_in_range rows row (orders.within k 0 within)

pub in_local_rows : (globals order : List ℕ) (m : Matrix) (rows : ℕ) → IsMatrix m → OrdersRows globals order m rows → All (λ e. count_of e.row (local_rows globals order) ≡ 1) m.entries
in_local_rows globals order m rows is orders =
    All-weaker (IsInside m.rows m.cols) (λ e. count_of e.row (local_rows globals order) ≡ 1) (λ e inside. once_in_order globals order m rows e.row orders inside.0) m.entries is.inside
