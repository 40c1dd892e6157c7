-- No index stands twice below a parent.
use Rattle.std.proofs.Common.{◌≡◌, ℕ, ◌+◌, ◌-◌, ◌<◌, ◌≤◌, Bool, true, false, cond, ◌==◌, List, [], ◌∷◌, length, map, filter, All, Option, sym, ◌∙◌, subst, refl, ⊎_elim, arith}
use Rattle.std.specs.List.{AllPairs, count_by, position, range_with_len}
use Rattle.std.proofs.lemmas.Bool.{cases_eq, cases_lt, cond-false, cond-true, eq-eqb, ne_eqb}
use Rattle.std.proofs.lemmas.List.Elements.{All-weaker}
use Rattle.std.proofs.lemmas.List.Quantifiers.{position-Some}
use Rattle.std.proofs.lemmas.List.Sums.{sum_by-cons}
use Rattle.bern_base.proofs.SumLemmas.{All-range, sum_by-flat_map, sum_by-map, sum_by_none}
use Rattle.bern_base.specs.Matrix.{IsMatrix}
use Rattle.bern_base.specs.declared.axes.Axis.TheVariants as axis
use Rattle.bern_base.specs.declared.matrix.Matrix.{Matrix}
use Rattle.bern_base.specs.declared.shape.Shape.TheVariants as shape
use Rattle.format_model.specs.Content.{Two, all_lines, count_in_row, in_line, leaf_on, local_rows, rows_by_count, rows_with}
use Rattle.format_model.specs.Laws.{HasEachIndexOnce, HasEachOnce, NoIndexStandsTwice, OrdersRows}
use Rattle.format_model.proofs.LineLemmas.{count_of}
use Rattle.format_model.proofs.OrderLemmas.{count-filter_map, count_other, once_by_count, once_in_order}
use Rattle.format_model.proofs.RiseLemmas.{numbers_rise, ordered_levels-rise, pairs-head, pairs-map, pairs-tail, vector_rises}

-- rising indices stand once
rising_once : {X : Type 0} (xs : List (ℕ × X)) → AllPairs (λ a b. a.0 < b.0) xs → HasEachOnce xs
rising_once [] rise index = omega arith
rising_once {X} (x ∷ xs) rise index =
    let sum = sum_by-cons (λ c. cond (c.0 == index) 1 0) x xs in ⊎_elim
    (λ (here : x.0 ≡ index).
    let none : count_by (λ c. c.0 == index) xs ≡ 0 = sum_by_none (λ c. cond (c.0 == index) 1 0) xs
    (All-weaker (λ c. x.0 < c.0) (λ c. cond (c.0 == index) 1 0 ≡ 0) (λ c up. cond-false {A = ℕ} (c.0 == index) 1 0 (ne_eqb c.0 index (λ same. omega (arith, here, up, same)))) xs (pairs-head (λ a b. a.0 < b.0) x xs rise)) in
    omega (arith, sum, none, cond-true {A = ℕ} (x.0 == index) 1 0 (eq-eqb x.0 index here)))
    (λ (other : x.0 ≡ index → ⊥).
    omega (arith, sum, rising_once xs (pairs-tail (λ a b. a.0 < b.0) x xs rise) index, cond-false {A = ℕ} (x.0 == index) 1 0 (ne_eqb x.0 index other)))
    (cases_eq x.0 index)

-- lines stand once where their indices do
lines_once : {X : Type 0} (f : ℕ → X) (xs : List ℕ) → ((x : ℕ) → count_of x xs ≤ 1) → HasEachOnce (map (λ l. (l, f l)) xs)
lines_once f xs once index = subst (λ n. n ≤ 1) (sym (sum_by-map (λ c. cond (c.0 == index) 1 0) (λ l. (l, f l)) xs)) (once index)

-- ---- rows in an order of their own

none_past : (n x : ℕ) → n ≤ x → count_of x (range_with_len 0 n) ≡ 0
none_past n x past = sum_by_none (λ y. cond (y == x) 1 0) (range_with_len 0 n) (All-range (λ y. cond (y == x) 1 0 ≡ 0) n (λ y below. cond-false {A = ℕ} (y == x) 1 0 (ne_eqb y x (λ same. omega (arith, past, below, same)))))

filter_fewer : (p : ℕ → Bool) (x : ℕ) (xs : List ℕ) → count_of x (filter p xs) ≤ count_of x xs
filter_fewer p x [] = omega arith
filter_fewer p x (y ∷ xs) =
    let kept : List ℕ = filter p xs in
    let rest : count_of x kept ≤ count_of x xs = filter_fewer p x xs in
    let all = sum_by-cons (λ z. cond (z == x) 1 0) y xs in
    elim (p y) as (λ b. count_of x (cond b (y ∷ kept) kept) ≤ count_of x (y ∷ xs)) [
      | true ↦ omega (arith, rest, all, sum_by-cons (λ z. cond (z == x) 1 0) y kept)
      | false ↦ omega (arith, rest, all)
    ]

no_such_row : (m : Matrix) (row count : ℕ) → m.rows ≤ row → count_of row (rows_with m count) ≡ 0
no_such_row m row count past = omega (arith, filter_fewer (λ r. count_in_row m r == count) row (all_lines axis.Row m), none_past m.rows row past)

rows_once : (m : Matrix) (row : ℕ) → count_of row (rows_by_count m) ≤ 1
rows_once m row = ⊎_elim
    (λ (inside : row < m.rows). omega (arith, once_by_count m row inside))
    (λ (past : m.rows ≤ row).
    let none : count_of row (rows_by_count m) ≡ 0 =
    sum_by-flat_map (λ y. cond (y == row) 1 0) (λ k. rows_with m (length m.entries - k)) (range_with_len 0 (length m.entries + 1))
    ∙ sum_by_none (λ k. count_of row (rows_with m (length m.entries - k))) (range_with_len 0 (length m.entries + 1))
    (λ k d within. no_such_row m row _ past) in
    omega (arith, none))
    (cases_lt row m.rows)

order_once : (globals order : List ℕ) (m : Matrix) (rows : ℕ) → OrdersRows globals order m rows → (row : ℕ) → count_of row (local_rows globals order) ≤ 1
order_once globals order m rows orders row = ⊎_elim
    (λ (inside : row < m.rows). omega (arith, once_in_order globals order m rows row orders inside))
    (λ (past : m.rows ≤ row).
    let here : ℕ → Option ℕ = λ r. position (λ g. g == r) globals in
    let none : count_of row (local_rows globals order) ≡ 0 =
    count-filter_map here (λ r. false) row (λ r. count_other row (here r) (λ found. omega (arith, past, orders.long, (position-Some (λ g. g == r) globals row 0 found).0))) order
    ∙ sum_by_none (λ r. 0) order (λ k d within. refl) in
    omega (arith, none))
    (cases_lt row m.rows)

-- ---- the table

below_once : (lines : List (ℕ × List (ℕ × ℕ))) → All (λ line. AllPairs (λ a b. a.0 < b.0) line.1) lines → All (λ line. HasEachOnce line.1) lines
below_once lines rise = All-weaker (λ line. AllPairs (λ a b. a.0 < b.0) line.1) (λ line. HasEachOnce line.1) (λ line up. rising_once line.1 up) lines rise

numbers_once : (m : Matrix) → IsMatrix m → HasEachOnce (map (leaf_on axis.Both m.cols) m.entries)
numbers_once m is = rising_once (map (leaf_on axis.Both m.cols) m.entries) (pairs-map (λ x y. x.0 < y.0) (leaf_on axis.Both m.cols) m.entries (numbers_rise m is))

two_once : (lines : List (ℕ × List (ℕ × ℕ))) → (true ≡ true → AllPairs (λ a b. a.0 < b.0) lines) × (true ≡ true → All (λ line. AllPairs (λ a b. a.0 < b.0) line.1) lines) → HasEachIndexOnce (Two lines)
two_once lines rise = (rising_once lines (rise.0 refl), below_once lines (rise.1 refl))

pub no_index-stands_twice : NoIndexStandsTwice
no_index-stands_twice shape.DenseOne globals order m is suits = rising_once _ (ordered_levels-rise shape.DenseOne globals order m is suits refl)
no_index-stands_twice shape.PackedOne globals order m is suits = rising_once _ (vector_rises m suits is)
no_index-stands_twice shape.ListOne globals order m is suits = rising_once _ (vector_rises m suits is)
no_index-stands_twice (shape.DenseDense outer) globals order m is suits = two_once _ (ordered_levels-rise (shape.DenseDense outer) globals order m is suits)
no_index-stands_twice (shape.DensePacked outer) globals order m is suits = two_once _ (ordered_levels-rise (shape.DensePacked outer) globals order m is suits)
no_index-stands_twice (shape.PackedPacked outer) globals order m is suits = two_once _ (ordered_levels-rise (shape.PackedPacked outer) globals order m is suits)
no_index-stands_twice shape.ListTwo globals order m is suits = numbers_once m is
no_index-stands_twice shape.Jagged globals order m is suits =
    (lines_once (λ l. map (leaf_on axis.Col m.cols) (in_line axis.Row m.cols l m.entries)) (rows_by_count m) (rows_once m), below_once _ ((ordered_levels-rise shape.Jagged globals order m is suits).1 refl))
no_index-stands_twice (shape.Diagonal offsets) globals order m is suits = two_once _ (ordered_levels-rise (shape.Diagonal offsets) globals order m is suits)
no_index-stands_twice (shape.Permute file) globals order m is suits = (
  lines_once (λ l. map (leaf_on axis.Col m.cols) (in_line axis.Row m.cols l m.entries)) (local_rows globals order) (order_once globals order m suits.0 suits.1),
  below_once _ ((ordered_levels-rise (shape.Permute file) globals order m is suits).1 refl),
)
