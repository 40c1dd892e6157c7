-- Orders of rows: their rows lie below the length, differ, and are all there.
use Rattle.std.proofs.Common.{◌≡◌, ℕ, zero, suc, ◌+◌, ◌^◌, ◌<◌, ◌≤◌, cond, ◌==◌, List, [], ◌∷◌, length, get_or, set, below_more, Option, Some, None, ◌++◌, ⊎_elim, get_or-set_same, get_or-set_other, refl, sym, ap, ◌∙◌, subst, arith}
use Rattle.std.specs.List.{All, cons_option, filter, position, position_from, range_with_len}
use Rattle.std.specs.List.Sorted.{IsPermutation}
use Rattle.std.proofs.lemmas.Bool.{cases_eq, cond-false, cond-true, eq-eqb, ne_eqb}
use Rattle.std.proofs.lemmas.List.Elements.{All-cons, All-head, All-nil, All-tail}
use Rattle.std.proofs.lemmas.List.Quantifiers.{position-Some}
use Rattle.std.proofs.lemmas.List.{get_or_read}
use Rattle.std.proofs.lemmas.List.FromFn.{get_or-range_with_len, length-range_with_len}
use Rattle.std.proofs.lemmas.List.Sorted.{All-permutation, Contains-permutation, length_permutation, sum_by-IsPermutation}
use Rattle.std.proofs.lemmas.List.Sums.{sum_by-cons}
use Rattle.format_model.proofs.ContentLemmas.{once_in_range}
use Rattle.format_model.proofs.LineLemmas.{count_of, dealt, dealt-permutation}
use Rattle.format_model.proofs.OrderLemmas.{once_in_order}
use Rattle.format_model.specs.Content.{local_rows}
use Rattle.format_model.specs.Laws.{OrdersRows}
use Rattle.bern_base.specs.declared.matrix.Matrix.{Matrix}
use Rattle.stores_shaped.specs.Orders.{IsInverse, IsOrder}

-- a number that stands at a place is counted
count_here : (xs : List ℕ) (i x : ℕ) → i < length xs → get_or xs i 0 ≡ x → 1 ≤ count_of x xs
count_here [] i x within is = absurd (omega arith)
count_here (y ∷ xs) zero x within is = omega (arith, sum_by-cons (λ z. cond (z == x) 1 0) y xs, cond-true {A = ℕ} (y == x) 1 0 (eq-eqb y x is))
count_here (y ∷ xs) (suc i) x within is =
    let later : 1 ≤ count_of x xs = count_here xs i x (omega arith) is in omega (arith, later, sum_by-cons (λ z. cond (z == x) 1 0) y xs)

-- at two places, twice
count_twice : (xs : List ℕ) (i j x : ℕ) → i < j → j < length xs → get_or xs i 0 ≡ x → get_or xs j 0 ≡ x → 2 ≤ count_of x xs
count_twice [] i j x up within first second = absurd (omega arith)
count_twice (y ∷ xs) i zero x up within first second = absurd (omega arith)
count_twice (y ∷ xs) zero (suc j) x up within first second =
    let later : 1 ≤ count_of x xs = count_here xs j x (omega arith) second in
    omega (arith, later, sum_by-cons (λ z. cond (z == x) 1 0) y xs, cond-true {A = ℕ} (y == x) 1 0 (eq-eqb y x first))
count_twice (y ∷ xs) (suc i) (suc j) x up within first second =
    let later : 2 ≤ count_of x xs = count_twice xs i j x (omega arith) (omega arith) first second in omega (arith, later, sum_by-cons (λ z. cond (z == x) 1 0) y xs)

-- the rows of an order lie below its length
pub order_below : (order : List ℕ) → IsOrder order → All (λ r. r < length order) order
order_below order is =
    All-permutation (λ r. r < length order) (range_with_len 0 (length order)) order is
    (λ k d within. let low : k < length order = omega (arith, length-range_with_len 0 (length order)) in omega (arith, get_or-range_with_len 0 (length order) k d low))

-- what an order gives
pub record HasRows (order : List ℕ) : Type 0 where
  pub below : (q : ℕ) → q < length order → get_or order q 0 < length order
  pub apart : (q r : ℕ) → q < r → r < length order → get_or order q 0 ≡ get_or order r 0 → ⊥
  pub there : (row : ℕ) → row < length order → (q : ℕ) × (q < length order) × (get_or order q 0 ≡ row)

pub rows_of_order : (order : List ℕ) → IsOrder order → HasRows order
rows_of_order order is =
    let n : ℕ = length order in
    let below : All (λ r. r < n) order = order_below order is in record {
      below = λ q low. below q 0 low;
      apart = λ q r up low same.
          let x : ℕ = get_or order r 0 in
          let twice : 2 ≤ count_of x order = count_twice order q r x up low same refl in
          let once : count_of x order ≡ 1 = sum_by-IsPermutation (λ y. cond (y == x) 1 0) (range_with_len 0 n) order is ∙ once_in_range n x (below r 0 low) in omega (arith, twice, once);
      there = λ row low.
          let at : get_or (range_with_len 0 n) row row ≡ row = omega (arith, get_or-range_with_len 0 n row row low) in
          let found = Contains-permutation (range_with_len 0 n) order row is (row, omega (arith, length-range_with_len 0 n), at) in
          (found.0, found.1, sym (get_or_read order found.0 row found.1 (sym found.2) 0));
    }

-- rows of 32 bits are at most 2^32
pub few_rows : (order : List ℕ) → HasRows order → ((k : ℕ) → get_or order k 0 < 2 ^ 32) → length order ≤ 2 ^ 32
few_rows [] has small = omega arith
few_rows (row ∷ order) has small =
    let n : ℕ = length order in
    let last = has.there n (omega arith) in
    let there : get_or (row ∷ order) last.0 0 ≡ n = last.2 in
    omega (arith, small last.0, there)

-- one place more is written
pub placed_more : (order inverse : List ℕ) (place : ℕ) → HasRows order → place < length order → length inverse ≡ length order
    → ((q : ℕ) → q < place → get_or inverse (get_or order q 0) 0 ≡ q)
    → (q : ℕ) → q < place + 1 → get_or (set inverse (get_or order place 0) place) (get_or order q 0) 0 ≡ q
placed_more order inverse place has within long placed =
    let below : get_or order place 0 < length order = has.below place within in
    below_more (λ q. get_or (set inverse (get_or order place 0) place) (get_or order q 0) 0 ≡ q) place
    (λ q low. get_or-set_other inverse (get_or order place 0) (get_or order q 0) place 0 (has.apart q place low within) ∙ placed q low)
    (get_or-set_same inverse (get_or order place 0) place 0 (omega arith))

pub inverse_of : (order inverse : List ℕ) → HasRows order → length inverse ≡ length order → ((q : ℕ) → q < length order → get_or inverse (get_or order q 0) 0 ≡ q) → IsInverse order inverse
inverse_of order inverse has long placed = record {
  long = long;
  rows = has.below;
  places = λ row low.
      let q = has.there row low in
      let at : get_or inverse row 0 ≡ q.0 = subst (λ r. get_or inverse r 0 ≡ q.0) q.2 (placed q.0 q.1) in
      let within : q.0 < length order = q.1 in omega (arith, at, within);
  place_of_row = placed;
  row_at_place = λ row low.
      let q = has.there row low in
      let at : get_or inverse row 0 ≡ q.0 = subst (λ r. get_or inverse r 0 ≡ q.0) q.2 (placed q.0 q.1) in
      ap (λ k. get_or order k 0) at ∙ q.2;
}

-- where a number stands in a list whose places count from some number
abbrev pub place_from : ℕ → ℕ → List ℕ → Option ℕ
place_from row from xs = position_from (λ g. g == row) from xs

-- ---- the local order of a part

after : (r a n : ℕ) → r < a → filter (λ k. k == r) (range_with_len a n) ≡ []
after r a zero low = refl
after r a (suc n) low = cond-false (a == r) (a ∷ filter (λ k. k == r) (range_with_len (a + 1) n)) (filter (λ k. k == r) (range_with_len (a + 1) n)) (ne_eqb a r (λ same. omega arith)) ∙ after r (a + 1) n (omega arith)

-- of the numbers of a range, those that are one of them are that one
single : (r a n : ℕ) → a ≤ r → r < a + n → filter (λ k. k == r) (range_with_len a n) ≡ r ∷ []
single r a zero low high = absurd (omega arith)
single r a (suc n) low high =
    let rest : List ℕ = filter (λ k. k == r) (range_with_len (a + 1) n) in ⊎_elim
    (λ (same : a ≡ r). cond-true (a == r) (a ∷ rest) rest (eq-eqb a r same) ∙ ap (λ xs. a ∷ xs) (after r (a + 1) n (omega arith)) ∙ ap (λ k. k ∷ []) same)
    (λ (other : a ≡ r → ⊥). cond-false (a == r) (a ∷ rest) rest (ne_eqb a r other) ∙ single r (a + 1) n (omega (arith, other)) (omega arith))
    (cases_eq a r)

dealt_single : (n : ℕ) (order : List ℕ) → All (λ r. r < n) order → dealt (λ r. r) (range_with_len 0 n) order ≡ order
dealt_single n [] below = refl
dealt_single n (r ∷ order) below =
    ap (λ xs. xs ++ dealt (λ r. r) (range_with_len 0 n) order) (single r 0 n (omega arith) (omega (arith, All-head (λ r. r < n) r order below)))
    ∙ ap (λ xs. r ∷ xs) (dealt_single n order (All-tail (λ r. r < n) r order below))

kept_below : (globals : List ℕ) (o : Option ℕ) (rest : List ℕ) → ((k : ℕ) → o ≡ Some k → k < length globals) → All (λ r. r < length globals) rest → All (λ r. r < length globals) (cons_option o rest)
kept_below globals None rest found below = below
kept_below globals (Some k) rest found below = All-cons (λ r. r < length globals) k rest (found k refl) below

-- a list that has each number below n once, and no others, is an order of them
pub order_of_counts : (n : ℕ) (order : List ℕ) → All (λ r. r < n) order → ((r : ℕ) → r < n → count_of r order ≡ 1) → IsPermutation (range_with_len 0 n) order
order_of_counts n order below once =
    let all : List ℕ = range_with_len 0 n in
    let each : All (λ r. count_of r order ≡ 1) all = λ k d within.
    let low : k < n = omega (arith, length-range_with_len 0 n) in
    let at : get_or all k d ≡ k = omega (arith, get_or-range_with_len 0 n k d low) in once (get_or all k d) (omega (arith, at)) in
    subst (IsPermutation all) (dealt_single n order below) (dealt-permutation (λ r. r) all order each)

-- the numbers of a part's rows
local_below : (globals order : List ℕ) → All (λ r. r < length globals) (local_rows globals order)
local_below globals [] = All-nil (λ r. r < length globals)
local_below globals (row ∷ order) = kept_below globals (position (λ g. g == row) globals) (local_rows globals order) (λ k found. (position-Some (λ g. g == row) globals k 0 found).0) (local_below globals order)

pub local_is_order : (globals order : List ℕ) (m : Matrix) (rows : ℕ) → OrdersRows globals order m rows → IsPermutation (range_with_len 0 m.rows) (local_rows globals order)
local_is_order globals order m rows orders =
    order_of_counts m.rows (local_rows globals order) (subst (λ n. All (λ r. r < n) (local_rows globals order)) orders.long (local_below globals order)) (λ r low. once_in_order globals order m rows r orders low)

pub order_of_part : (globals order : List ℕ) (m : Matrix) (rows : ℕ) (local : List ℕ) → OrdersRows globals order m rows → local ≡ local_rows globals order → (length local ≡ m.rows) × IsOrder local
order_of_part globals order m rows local orders same =
    let is : IsPermutation (range_with_len 0 m.rows) local = subst (IsPermutation (range_with_len 0 m.rows)) (sym same) (local_is_order globals order m rows orders) in
    let long : length local ≡ m.rows = length_permutation (range_with_len 0 m.rows) local is ∙ length-range_with_len 0 m.rows in
    (long, subst (λ n. IsPermutation (range_with_len 0 n) local) (sym long) is)
