-- The rows of a matrix in an order, as a matrix.
use Rattle.std.proofs.Common.{◌≡◌, ℕ, zero, suc, ◌+◌, ◌-◌, ◌*◌, ◌<◌, ◌≤◌, Bool, true, false, cond, ◌==◌, List, [], ◌∷◌, ◌++◌, length, length-append, map, get_or, refl, sym, ap, ◌∙◌, add-one, append_assoc, ⊎_elim, arith}
use Rattle.std.specs.List.{All, AllPairs, filter, flat_map, range_with_len}
use Rattle.std.proofs.Math.Nat.{mul-le-mul_right}
use Rattle.std.proofs.lemmas.Bool.{cases_eq, cond-true, cond-false, eq-eqb, ne_eqb}
use Rattle.std.proofs.lemmas.Grind.{flat_map-append}
use Rattle.std.proofs.lemmas.List.{append-nil, get_or-map, length-map, map-append}
use Rattle.std.proofs.lemmas.List.Elements.{All-append, All-filter, All-head, All-map, All-nil, All-tail, All-weaker, filter-append}
use Rattle.std.proofs.lemmas.List.Folds.{flat_map-map, map_fixed}
use Rattle.std.proofs.lemmas.List.FromFn.{fill_by_all}
use Rattle.std.proofs.lemmas.List.Kept.{AllPairs-cons}
use Rattle.std.proofs.lemmas.List.Sorted.{length_permutation, sum_by-IsPermutation}
use Rattle.std.proofs.lemmas.Simd.{map-map}
use Rattle.bern_base.specs.Matrix.{IsInside, IsMatrix, number}
use Rattle.bern_base.specs.declared.axes.Axis.TheVariants as axis
use Rattle.bern_base.specs.declared.matrix.Entry.{Entry}
use Rattle.bern_base.specs.declared.matrix.Matrix.{Matrix}
use Rattle.format_model.specs.Axes.{index_of}
use Rattle.format_model.specs.Content.{in_line, leaf_on}
use Rattle.format_model.specs.Elements.{entry_at, line_element}
use Rattle.format_model.proofs.ContentLemmas.{once_in_range, row_side}
use Rattle.format_model.proofs.LineLemmas.{count_of, dealt, dealt-permutation}
use Rattle.format_model.proofs.RiseLemmas.{pairs-head, pairs-map, pairs-tail}
use Rattle.stores_packed.specs.Lines.{IsFilled, before, line_len, stretch}
use Rattle.stores_packed.proofs.LineLemmas.{before_most, before_up}
use Rattle.stores_packed.proofs.RangeLemmas.{range_more}
use Rattle.stores_packed.proofs.StoreLemmas.{line_rises}
use Rattle.stores_shaped.specs.Orders.{IsOrder}
use Rattle.stores_shaped.specs.Permuted.{HasRowsInOrder, row_leaves}

-- the entries of a row in its place
abbrev pub block : List ℕ → Matrix → ℕ → List Entry
block order m q = map (line_element axis.Row q) (row_leaves m (get_or order q 0))

-- the entries of the first rows of the order
abbrev pub arranged : List ℕ → Matrix → ℕ → List Entry
arranged order m n = flat_map (block order m) (range_with_len 0 n)

pub arranged_more : (order : List ℕ) (m : Matrix) (n : ℕ) → arranged order m (n + 1) ≡ arranged order m n ++ block order m n
arranged_more order m n =
    ap (arranged order m) (add-one n)
    ∙ ap (flat_map (block order m)) (range_more 0 n n (omega arith))
    ∙ flat_map-append (block order m) (range_with_len 0 n) (n ∷ [])
    ∙ ap (λ xs. arranged order m n ++ xs) (append-nil (block order m n))

-- ---- one block

-- an entry of row q
abbrev InRow : Matrix → ℕ → Entry → Type 0
InRow m q e = (e.row ≡ q) × (e.col < m.cols)

block_inside : (order : List ℕ) (m : Matrix) (q : ℕ) → IsMatrix m → All (InRow m q) (block order m q)
block_inside order m q is =
    let row : ℕ = get_or order q 0 in
    All-map (InRow m q) (line_element axis.Row q) (row_leaves m row)
    (All-map (λ leaf. InRow m q (line_element axis.Row q leaf)) (leaf_on axis.Col m.cols) (in_line axis.Row m.cols row m.entries)
    (All-weaker (IsInside m.rows m.cols) (λ e. InRow m q (line_element axis.Row q (leaf_on axis.Col m.cols e))) (λ e inside. (refl, inside.1)) (in_line axis.Row m.cols row m.entries)
    (All-filter (λ e. e.row == row) (IsInside m.rows m.cols) m.entries is.inside)))

block_rises : (order : List ℕ) (m : Matrix) (q : ℕ) → IsMatrix m → AllPairs (λ x y. number m.cols x < number m.cols y) (block order m q)
block_rises order m q is =
    let row : ℕ = get_or order q 0 in
    pairs-map (λ x y. number m.cols x < number m.cols y) (line_element axis.Row q) (row_leaves m row)
    (pairs-map (λ x y. number m.cols (line_element axis.Row q x) < number m.cols (line_element axis.Row q y)) (leaf_on axis.Col m.cols) (in_line axis.Row m.cols row m.entries)
    (λ i j d up within. let less = line_rises axis.Row m row row_side is i j d up within in omega (arith, less)))

-- ---- all of them

pairs-append : {X : Type 0} (R : X → X → Type 0) (xs ys : List X) → AllPairs R xs → AllPairs R ys → All (λ x. All (R x) ys) xs → AllPairs R (xs ++ ys)
pairs-append R [] ys first second cross = second
pairs-append {X} R (x ∷ xs) ys first second cross =
    AllPairs-cons R x (xs ++ ys) (All-append (R x) xs ys (pairs-head R x xs first) (All-head (λ z. All (R z) ys) x xs cross))
    (pairs-append R xs ys (pairs-tail R x xs first) second (All-tail (λ z. All (R z) ys) x xs cross))

-- an entry of the rows from one on, before another
abbrev InRows : Matrix → ℕ → ℕ → Entry → Type 0
InRows m a b e = (a ≤ e.row) × (e.row < b) × (e.col < m.cols)

inside_from : (order : List ℕ) (m : Matrix) (a n : ℕ) → IsMatrix m → All (InRows m a (a + n)) (flat_map (block order m) (range_with_len a n))
inside_from order m a zero is = All-nil (InRows m a (a + 0))
inside_from order m a (suc n) is =
    All-append (InRows m a (a + suc n)) (block order m a) (flat_map (block order m) (range_with_len (a + 1) n))
    (All-weaker (InRow m a) (InRows m a (a + suc n)) (λ e at. (omega (arith, at.0), omega (arith, at.0), at.1)) (block order m a) (block_inside order m a is))
    (All-weaker (InRows m (a + 1) (a + 1 + n)) (InRows m a (a + suc n)) (λ e at. (omega (arith, at.0), omega (arith, at.1), at.2)) (flat_map (block order m) (range_with_len (a + 1) n)) (inside_from order m (a + 1) n is))

row_before : (m : Matrix) (a : ℕ) (x y : Entry) → InRow m a x → a + 1 ≤ y.row → number m.cols x < number m.cols y
row_before m a x y at later =
    let least : (a + 1) * m.cols ≤ y.row * m.cols = mul-le-mul_right m.cols later in
    let same : x.row * m.cols ≡ a * m.cols = ap (λ r. r * m.cols) at.0 in
    let next : (a + 1) * m.cols ≡ a * m.cols + m.cols = omega arith in omega (arith, least, same, next, at.1)

rises_from : (order : List ℕ) (m : Matrix) (a n : ℕ) → IsMatrix m → AllPairs (λ x y. number m.cols x < number m.cols y) (flat_map (block order m) (range_with_len a n))
rises_from order m a zero is = λ i j d up within. absurd (omega arith)
rises_from order m a (suc n) is =
    let rest : List Entry = flat_map (block order m) (range_with_len (a + 1) n) in
    pairs-append (λ x y. number m.cols x < number m.cols y) (block order m a) rest (block_rises order m a is) (rises_from order m (a + 1) n is)
    (All-weaker (InRow m a) (λ x. All (λ y. number m.cols x < number m.cols y) rest)
    (λ x at. All-weaker (InRows m (a + 1) (a + 1 + n)) (λ y. number m.cols x < number m.cols y) (λ y later. row_before m a x y at later.0) rest (inside_from order m (a + 1) n is))
    (block order m a) (block_inside order m a is))

filter_keeps : {X : Type 0} (p : X → Bool) (xs : List X) → All (λ x. p x ≡ true) xs → filter p xs ≡ xs
filter_keeps p [] all = refl
filter_keeps p (x ∷ xs) all =
    cond-true (p x) (x ∷ filter p xs) (filter p xs) (All-head (λ y. p y ≡ true) x xs all) ∙ ap (λ ys. x ∷ ys) (filter_keeps p xs (All-tail (λ y. p y ≡ true) x xs all))

pub filter_drops : {X : Type 0} (p : X → Bool) (xs : List X) → All (λ x. p x ≡ false) xs → filter p xs ≡ []
filter_drops p [] all = refl
filter_drops p (x ∷ xs) all =
    cond-false (p x) (x ∷ filter p xs) (filter p xs) (All-head (λ y. p y ≡ false) x xs all) ∙ filter_drops p xs (All-tail (λ y. p y ≡ false) x xs all)

line_from : (order : List ℕ) (m : Matrix) (a n q : ℕ) → IsMatrix m → a ≤ q → q < a + n → in_line axis.Row m.cols q (flat_map (block order m) (range_with_len a n)) ≡ block order m q
line_from order m a zero q is low high = absurd (omega arith)
line_from order m a (suc n) q is low high =
    let here : Entry → Bool = λ e. e.row == q in
    let rest : List Entry = flat_map (block order m) (range_with_len (a + 1) n) in
    filter-append here (block order m a) rest ∙ ⊎_elim
    (λ (same : a ≡ q).
    ap (λ xs. xs ++ filter here rest) (filter_keeps here (block order m a) (All-weaker (InRow m a) (λ e. here e ≡ true) (λ e at. eq-eqb e.row q (at.0 ∙ same)) (block order m a) (block_inside order m a is)))
    ∙ ap (λ xs. block order m a ++ xs) (filter_drops here rest (All-weaker (InRows m (a + 1) (a + 1 + n)) (λ e. here e ≡ false) (λ e at. ne_eqb e.row q (λ alike. omega (arith, at.0, alike, same))) rest (inside_from order m (a + 1) n is)))
    ∙ append-nil (block order m a)
    ∙ ap (block order m) same)
    (λ (other : a ≡ q → ⊥).
    ap (λ xs. xs ++ filter here rest) (filter_drops here (block order m a) (All-weaker (InRow m a) (λ e. here e ≡ false) (λ e at. ne_eqb e.row q (λ alike. other (sym at.0 ∙ alike))) (block order m a) (block_inside order m a is)))
    ∙ line_from order m (a + 1) n q is (omega (arith, other)) (omega arith))
    (cases_eq a q)

-- ---- as a matrix

abbrev pub arranged_matrix : Matrix → List Entry → Matrix
arranged_matrix m entries = record { rows = m.rows; cols = m.cols; entries = entries }

pub arranged_is_matrix : (order : List ℕ) (m : Matrix) → IsMatrix m → length order ≡ m.rows → IsMatrix (arranged_matrix m (arranged order m (length order)))
arranged_is_matrix order m is long =
    let all : List Entry = arranged order m (length order) in
    let d : Entry = record { row = 0; col = 0; value = 0 } in record {
      inside = All-weaker (InRows m 0 (0 + length order)) (IsInside m.rows m.cols) (λ e at. (omega (arith, at.1, long), at.2)) all (inside_from order m 0 (length order) is);
      rising = λ k within.
          let count : length (map (number m.cols) all) ≡ length all = length-map all (number m.cols) in
          let less = rises_from order m 0 (length order) is k (k + 1) d (omega arith) (omega (arith, count, within)) in
          omega (arith, less, get_or-map (number m.cols) all k d 0 (omega (arith, count, within)), get_or-map (number m.cols) all (k + 1) d 0 (omega (arith, count, within)));
    }

pub arranged_rows : (order : List ℕ) (m : Matrix) → IsMatrix m → length order ≡ m.rows → HasRowsInOrder order m (arranged_matrix m (arranged order m (length order)))
arranged_rows order m is long = record {
  rows = sym long;
  leaves = λ q low.
      let row : ℕ = get_or order q 0 in
      ap (map (leaf_on axis.Col m.cols)) (line_from order m 0 (length order) q is (omega arith) (omega arith))
      ∙ map-map (leaf_on axis.Col m.cols) (line_element axis.Row q) (row_leaves m row)
      ∙ map_fixed (λ leaf. leaf_on axis.Col m.cols (line_element axis.Row q leaf)) (row_leaves m row) (λ k d within. refl);
}

-- ---- how many entries

-- a list by its places
pub by_place : {X : Type 0} (f : ℕ → X) (d : X) (xs : List ℕ) → map f xs ≡ map (λ k. f (get_or xs k 0)) (range_with_len 0 (length xs))
by_place f d xs = fill_by_all (λ k. f (get_or xs k 0)) (map f xs) (length xs) d (length-map xs f) (λ k low. get_or-map f xs k 0 d low)

pub same_lengths : {X Y Z : Type 0} (f : X → List Y) (g : X → List Z) (xs : List X) → ((x : X) → length (f x) ≡ length (g x)) → length (flat_map f xs) ≡ length (flat_map g xs)
same_lengths f g [] each = refl
same_lengths f g (x ∷ xs) each = omega (arith, length-append (f x) (flat_map f xs), length-append (g x) (flat_map g xs), each x, same_lengths f g xs each)

pub arranged_count : (order : List ℕ) (m : Matrix) → IsMatrix m → IsOrder order → length order ≡ m.rows → length (arranged order m (length order)) ≡ length m.entries
arranged_count order m is orders long =
    let n : ℕ = length order in
    let line : ℕ → List Entry = λ row. in_line axis.Row m.cols row m.entries in
    let once : All (λ e. count_of e.row order ≡ 1) m.entries = All-weaker (IsInside m.rows m.cols) (λ e. count_of e.row order ≡ 1)
    (λ e inside. sum_by-IsPermutation (λ y. cond (y == e.row) 1 0) (range_with_len 0 n) order orders ∙ once_in_range n e.row (omega (arith, inside.0, long))) m.entries is.inside in
    same_lengths (block order m) (λ q. line (get_or order q 0)) (range_with_len 0 n)
    (λ q. length-map (row_leaves m (get_or order q 0)) (line_element axis.Row q) ∙ length-map (line (get_or order q 0)) (leaf_on axis.Col m.cols))
    ∙ ap length (sym (flat_map-map line (λ k. get_or order k 0) (range_with_len 0 n)) ∙ ap (flat_map line) (sym (fill_by_all (λ k. get_or order k 0) order n 0 refl (λ k low. refl))))
    ∙ length_permutation m.entries (dealt (index_of axis.Row m.cols) m.entries order) (dealt-permutation (index_of axis.Row m.cols) m.entries order once)

-- ---- the passes

-- one entry more of a row is copied
pub copied_more : (indices values : List ℕ) (from k place : ℕ) (old entries : List Entry) → from ≤ k
    → entries ≡ old ++ map (line_element axis.Row place) (stretch indices values from (k - from))
    → entries ++ entry_at place (get_or indices k 0) (get_or values k 0) ∷ [] ≡ old ++ map (line_element axis.Row place) (stretch indices values from (k + 1 - from))
copied_more indices values from k place old entries low so =
    let leaf : ℕ → ℕ × ℕ = λ k. (get_or indices k 0, get_or values k 0) in
    let n : ℕ = k - from in
    let count : k + 1 - from ≡ suc n = omega arith in
    let more : stretch indices values from (k + 1 - from) ≡ stretch indices values from n ++ leaf k ∷ [] =
    ap (stretch indices values from) count ∙ ap (map leaf) (range_more from n k (omega arith)) ∙ map-append leaf (range_with_len from n) (k ∷ []) in
    ap (λ xs. xs ++ entry_at place (get_or indices k 0) (get_or values k 0) ∷ []) so
    ∙ append_assoc old (map (line_element axis.Row place) (stretch indices values from n)) (entry_at place (get_or indices k 0) (get_or values k 0) ∷ [])
    ∙ ap (λ xs. old ++ xs) (sym (map-append (line_element axis.Row place) (stretch indices values from n) (leaf k ∷ [])) ∙ ap (map (line_element axis.Row place)) (sym more))

-- where a row stands among the filled ones
pub record IsRow (m : Matrix) (starts indices values : List ℕ) (row : ℕ) : Type 0 where
  pub there : row + 1 < length starts
  pub order : get_or starts row 0 ≤ get_or starts (row + 1) 0
  pub within : get_or starts (row + 1) 0 ≤ length indices
  pub held : length indices ≤ length values
  pub count : get_or starts (row + 1) 0 - get_or starts row 0 ≡ line_len axis.Row m.cols m.entries row
  pub leaves : stretch indices values (get_or starts row 0) (get_or starts (row + 1) 0 - get_or starts row 0) ≡ row_leaves m row

pub row_filled : (m : Matrix) (starts indices values : List ℕ) (row : ℕ) → IsFilled axis.Row m starts indices values → row < m.rows → IsRow m starts indices values row
row_filled m starts indices values row p low =
    let from : get_or starts row 0 ≡ before axis.Row m.cols m.entries row = p.begins row (omega (arith, p.long)) in
    let last : row + 1 ≡ suc row = add-one row in
    let to : get_or starts (row + 1) 0 ≡ before axis.Row m.cols m.entries (suc row) = p.begins (row + 1) (omega (arith, p.long)) ∙ ap (before axis.Row m.cols m.entries) last in
    let ends : before axis.Row m.cols m.entries (suc row) ≡ before axis.Row m.cols m.entries row + line_len axis.Row m.cols m.entries row = refl in
    let count : get_or starts (row + 1) 0 - get_or starts row 0 ≡ line_len axis.Row m.cols m.entries row = omega (arith, from, to, ends) in record {
      there = omega (arith, p.long);
      order = omega (arith, from, to, before_up axis.Row m.cols m.entries row (suc row) (omega arith));
      within = omega (arith, to, p.indices_long, before_most axis.Row m.cols m.entries (suc row));
      held = omega (arith, p.indices_long, p.values_long);
      count = count;
      leaves = ap (stretch indices values (get_or starts row 0)) count ∙ ap (λ b. stretch indices values b (line_len axis.Row m.cols m.entries row)) from ∙ p.lines row (omega (arith, p.long));
    }
