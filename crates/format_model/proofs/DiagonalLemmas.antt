-- The elements on the listed diagonals, row by row.
use Rattle.std.proofs.Common.{◌≡◌, ℕ, zero, suc, ◌+◌, ◌<◌, ◌≤◌, Bool, true, false, cond, ltb, ◌||◌, List, [], ◌∷◌, ◌++◌, get_or, map, filter, ℤ, pos, negsuc, ◌+ℤ◌, ◌-ℤ◌, sym, ap, ◌∙◌, subst, refl, ⊎_elim, arith}
use Rattle.std.specs.List.{AllPairs, flat_map, list_any, range_with_len}
use Rattle.std.specs.List.Sorted.{IsPermutation}
use Rattle.std.specs.Ordering.{int_eq}
use Rattle.std.specs.Prelude.{◌<ℤ◌, slice_index}
use Rattle.std.proofs.lemmas.Bool.{cond-true, cond-false, cases_eq, false_from_ne_true, le-ltb, lt-ltb}
use Rattle.std.proofs.lemmas.Bool.Decides.{Decides-int_eq}
use Rattle.std.proofs.lemmas.Int.{ints}
use Rattle.std.proofs.lemmas.List.Elements.{filter-append}
use Rattle.std.proofs.lemmas.List.Folds.{Any-from_list_any, flat_map-map}
use Rattle.std.proofs.lemmas.List.Sorted.{IsPermutation-refl, IsPermutation-sym, IsPermutation-trans, IsPermutation-cons, IsPermutation-append_right, IsPermutation-map, IsPermutation-middle}
use Rattle.std.proofs.lemmas.Simd.{map-map}
use Rattle.bern_base.specs.declared.axes.Axis.TheVariants as axis
use Rattle.bern_base.specs.declared.matrix.Entry.{Entry}
use Rattle.bern_base.specs.declared.matrix.Matrix.{Matrix}
use Rattle.format_model.specs.Content.{Two, all_lines, columns_of, diagonal_columns, diagonal_line}
use Rattle.format_model.specs.Elements.{elements_on, line_element, line_elements}
use Rattle.format_model.specs.Stored.{all_elements, is_on_diagonal}
use Rattle.format_model.proofs.DenseLemmas.{element_by, rows_of}
use Rattle.format_model.proofs.GridLemmas.{flat_map_permutation, flat_map_same}

-- ---- filters

-- where no element passes both tests, those that pass one are those that pass the first and those that pass the second
filter-or : {X : Type 0} (p q : X → Bool) → ((x : X) → p x ≡ true → q x ≡ true → ⊥) → (xs : List X) → IsPermutation (filter (λ x. p x || q x) xs) (filter p xs ++ filter q xs)
filter-or p q apart [] = IsPermutation-refl []
filter-or {X} p q apart (x ∷ xs) =
    let either : List X = filter (λ y. p y || q y) xs in
    let first : List X = filter p xs in
    let second : List X = filter q xs in
    let rest : IsPermutation either (first ++ second) = filter-or p q apart xs in
    elim (p x) as (λ b. ((b ≡ true) → q x ≡ true → ⊥) → IsPermutation (cond (b || q x) (x ∷ either) either) (cond b (x ∷ first) first ++ cond (q x) (x ∷ second) second)) [
      | true ↦ (λ other.
          subst (λ ys. IsPermutation (x ∷ either) ((x ∷ first) ++ ys)) (sym (cond-false (q x) (x ∷ second) second (false_from_ne_true (q x) (other refl))))
          (IsPermutation-cons x either (first ++ second) rest))
      | false ↦ (λ other.
          elim (q x) as (λ b. IsPermutation (cond b (x ∷ either) either) (first ++ cond b (x ∷ second) second)) [
            | true ↦ IsPermutation-trans (x ∷ either) (x ∷ (first ++ second)) (first ++ x ∷ second)
                (IsPermutation-cons x either (first ++ second) rest)
                (IsPermutation-sym (first ++ x ∷ second) (x ∷ (first ++ second)) (IsPermutation-middle first x second))
            | false ↦ rest
          ])
    ] (apart x)

filter-none : {X : Type 0} (p : X → Bool) (xs : List X) → ((x : X) → p x ≡ false) → filter p xs ≡ []
filter-none p [] none = refl
filter-none p (x ∷ xs) none = cond-false (p x) (x ∷ filter p xs) (filter p xs) (none x) ∙ filter-none p xs none

filter-map : {X Y : Type 0} (p : Y → Bool) (f : X → Y) (xs : List X) → filter p (map f xs) ≡ map f (filter (λ x. p (f x)) xs)
filter-map p f [] = refl
filter-map p f (x ∷ xs) =
    elim (p (f x)) as (λ b. cond b (f x ∷ filter p (map f xs)) (filter p (map f xs)) ≡ map f (cond b (x ∷ filter (λ y. p (f y)) xs) (filter (λ y. p (f y)) xs))) [
      | true ↦ ap (λ ys. f x ∷ ys) (filter-map p f xs)
      | false ↦ filter-map p f xs
    ]

filter-flat_map : {X Y : Type 0} (p : Y → Bool) (f : X → List Y) (xs : List X) → filter p (flat_map f xs) ≡ flat_map (λ x. filter p (f x)) xs
filter-flat_map p f [] = refl
filter-flat_map p f (x ∷ xs) = filter-append p (f x) (flat_map f xs) ∙ ap (λ ys. filter p (f x) ++ ys) (filter-flat_map p f xs)

-- ---- one diagonal in one row

range_after : (p : ℕ → Bool) (k : ℕ) → ((c : ℕ) → p c ≡ true → c ≡ k) → (a n : ℕ) → k < a → filter p (range_with_len a n) ≡ []
range_after p k only a zero low = refl
range_after p k only a (suc n) low =
    cond-false (p a) (a ∷ filter p (range_with_len (a + 1) n)) (filter p (range_with_len (a + 1) n)) (false_from_ne_true (p a) (λ passes. omega (arith, low, only a passes)))
    ∙ range_after p k only (a + 1) n (omega (arith, low))

-- the one number that passes, where it is in the range
range_only : (p : ℕ → Bool) (k : ℕ) → p k ≡ true → ((c : ℕ) → p c ≡ true → c ≡ k) → (a n : ℕ) → a ≤ k → filter p (range_with_len a n) ≡ filter (λ c. ltb c (a + n)) (k ∷ [])
range_only p k passes only a zero low = sym (cond-false (ltb k (a + 0)) (k ∷ []) [] (le-ltb k (a + 0) (omega (arith, low))))
range_only p k passes only a (suc n) low =
    let rest : List ℕ = filter p (range_with_len (a + 1) n) in ⊎_elim
    (λ (here : a ≡ k).
    cond-true (p a) (a ∷ rest) rest (ap p here ∙ passes)
    ∙ ap (λ xs. a ∷ xs) (range_after p k only (a + 1) n (omega (arith, here)))
    ∙ ap (λ c. c ∷ []) here
    ∙ sym (cond-true (ltb k (a + suc n)) (k ∷ []) [] (lt-ltb k (a + suc n) (omega (arith, here)))))
    (λ (other : a ≡ k → ⊥).
    let more : a + 1 + n ≡ a + suc n = omega arith in
    cond-false (p a) (a ∷ rest) rest (false_from_ne_true (p a) (λ hit. other (only a hit)))
    ∙ range_only p k passes only (a + 1) n (omega (arith, low, other))
    ∙ ap (λ m. filter (λ c. ltb c m) (k ∷ [])) more)
    (cases_eq a k)

-- the column in which a diagonal crosses a row
crossing : (cols g : ℕ) (offset z : ℤ) → pos g +ℤ offset ≡ z → filter (λ c. int_eq (pos c -ℤ pos g) offset) (range_with_len 0 cols) ≡ columns_of cols z
crossing cols g offset (pos k) there =
    let hits : int_eq (pos k -ℤ pos g) offset ≡ true = (Decides-int_eq (pos k -ℤ pos g) offset).1 (omega (arith, ints, there)) in
    let limit : 0 + cols ≡ cols = omega arith in
    range_only (λ c. int_eq (pos c -ℤ pos g) offset) k hits
    (λ c hit. let at : pos c -ℤ pos g ≡ offset = (Decides-int_eq (pos c -ℤ pos g) offset).0 hit in omega (arith, ints, there, at)) 0 cols (omega arith)
    ∙ ap (λ m. filter (λ c. ltb c m) (k ∷ [])) limit
crossing cols g offset (negsuc n) there =
    filter-none (λ c. int_eq (pos c -ℤ pos g) offset) (range_with_len 0 cols)
    (λ c. false_from_ne_true (int_eq (pos c -ℤ pos g) offset) (λ hit. let at : pos c -ℤ pos g ≡ offset = (Decides-int_eq (pos c -ℤ pos g) offset).0 hit in omega (arith, ints, there, at)))

-- ---- all diagonals in one row

other_diagonal : (offset : ℤ) (offsets : List ℤ) (d : ℤ) → AllPairs (λ a b. a <ℤ b) (offset ∷ offsets) → int_eq d offset ≡ true → list_any (int_eq d) offsets ≡ true → ⊥
other_diagonal offset offsets d rise here there =
    let found = Any-from_list_any (int_eq d) offsets there in
    let above : offset <ℤ get_or offsets found.0 found.1 = rise 0 (suc found.0) found.1 (omega arith) (omega (arith, found.2)) in
    let same : d ≡ offset = (Decides-int_eq d offset).0 here in
    let also : d ≡ found.1 = (Decides-int_eq d found.1).0 found.4 in
    let at : get_or offsets found.0 found.1 ≡ found.1 = found.3 in
    let up : offset <ℤ found.1 = subst (λ z. offset <ℤ z) at above in
    omega (arith, ints, up, same, also)

pub row_columns : (cols g : ℕ) (offsets : List ℤ) → AllPairs (λ a b. a <ℤ b) offsets → IsPermutation (filter (is_on_diagonal offsets g) (range_with_len 0 cols)) (diagonal_columns cols offsets g)
row_columns cols g [] rise = subst (λ xs. IsPermutation xs []) (sym (filter-none (λ c. false) (range_with_len 0 cols) (λ c. refl))) (IsPermutation-refl [])
row_columns cols g (offset ∷ offsets) rise =
    let here : ℕ → Bool = λ c. int_eq (pos c -ℤ pos g) offset in
    let all : List ℕ = range_with_len 0 cols in
    let later : List ℕ = filter (is_on_diagonal offsets g) all in
    IsPermutation-trans (filter (is_on_diagonal (offset ∷ offsets) g) all) (filter here all ++ later) (diagonal_columns cols (offset ∷ offsets) g)
    (filter-or here (is_on_diagonal offsets g) (λ c. other_diagonal offset offsets (pos c -ℤ pos g) rise) all)
    (subst (λ xs. IsPermutation (xs ++ later) (diagonal_columns cols (offset ∷ offsets) g)) (sym (crossing cols g offset (pos g +ℤ offset) refl))
    (IsPermutation-append_right (columns_of cols (pos g +ℤ offset)) later (diagonal_columns cols offsets g) (row_columns cols g offsets (λ i j d up within. rise (suc i) (suc j) d (omega (arith, up)) (omega (arith, within))))))

-- ---- all rows

stored_by_rows : (offsets : List ℤ) (globals : List ℕ) (m : Matrix) → filter (λ e. is_on_diagonal offsets (slice_index globals e.row) e.col) (all_elements m) ≡
    flat_map (λ r. map (element_by m r) (filter (is_on_diagonal offsets (slice_index globals r)) (range_with_len 0 m.cols))) (range_with_len 0 m.rows)
stored_by_rows offsets globals m =
    let stored : Entry → Bool = λ e. is_on_diagonal offsets (slice_index globals e.row) e.col in
    let cols : List ℕ = range_with_len 0 m.cols in
    ap (filter stored) (rows_of m)
    ∙ filter-flat_map stored (λ r. map (element_by m r) cols) (range_with_len 0 m.rows)
    ∙ flat_map_same (λ r. filter stored (map (element_by m r) cols)) (λ r. map (element_by m r) (filter (is_on_diagonal offsets (slice_index globals r)) cols)) (range_with_len 0 m.rows)
    (λ k d within. filter-map stored (element_by m _) cols)

listed_by_rows : (offsets : List ℤ) (globals : List ℕ) (m : Matrix) → elements_on axis.Row m.cols (Two (map (diagonal_line offsets globals m) (all_lines axis.Row m))) ≡
    flat_map (λ r. map (element_by m r) (diagonal_columns m.cols offsets (slice_index globals r))) (range_with_len 0 m.rows)
listed_by_rows offsets globals m =
    flat_map-map (line_elements axis.Row) (diagonal_line offsets globals m) (range_with_len 0 m.rows)
    ∙ flat_map_same (λ r. line_elements axis.Row (diagonal_line offsets globals m r)) (λ r. map (element_by m r) (diagonal_columns m.cols offsets (slice_index globals r))) (range_with_len 0 m.rows)
    (λ k d within. map-map (line_element axis.Row _) _ _)

pub diagonal-permutation : (offsets : List ℤ) (globals : List ℕ) (m : Matrix) → AllPairs (λ a b. a <ℤ b) offsets →
    IsPermutation (filter (λ e. is_on_diagonal offsets (slice_index globals e.row) e.col) (all_elements m)) (elements_on axis.Row m.cols (Two (map (diagonal_line offsets globals m) (all_lines axis.Row m))))
diagonal-permutation offsets globals m rise =
    subst (λ ys. IsPermutation (filter (λ e. is_on_diagonal offsets (slice_index globals e.row) e.col) (all_elements m)) ys) (sym (listed_by_rows offsets globals m))
    (subst (λ xs. IsPermutation xs (flat_map (λ r. map (element_by m r) (diagonal_columns m.cols offsets (slice_index globals r))) (range_with_len 0 m.rows))) (sym (stored_by_rows offsets globals m))
    (flat_map_permutation (λ r. map (element_by m r) (filter (is_on_diagonal offsets (slice_index globals r)) (range_with_len 0 m.cols))) (λ r. map (element_by m r) (diagonal_columns m.cols offsets (slice_index globals r))) (range_with_len 0 m.rows)
    (λ k d within. IsPermutation-map (element_by m _) (filter (is_on_diagonal offsets (slice_index globals _)) (range_with_len 0 m.cols)) (diagonal_columns m.cols offsets (slice_index globals _)) (row_columns m.cols (slice_index globals _) offsets rise))))
