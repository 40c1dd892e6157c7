-- Elements row by row and column by column, and the sums of a list with one entry for each.
use Rattle.std.proofs.Common.{◌≡◌, ℕ, zero, suc, ◌+◌, ◌*◌, ◌^◌, ◌<◌, ◌≤◌, true, List, [], ◌∷◌, ◌++◌, map, refl, sym, ap, subst, ◌∙◌, arith, append_assoc}
use mathlib.Core.Path.{fun_ext}
use Rattle.std.specs.Prelude.{slice_index}
use Rattle.std.specs.List.{flat_map, range_with_len}
use Rattle.std.specs.List.Sorted.{IsPermutation}
use Rattle.std.proofs.lemmas.Bool.{and_from, lt-ltb}
use Rattle.std.proofs.lemmas.List.{map-append}
use Rattle.std.proofs.lemmas.List.Concat.{flat_map-append}
use Rattle.std.proofs.lemmas.List.Sorted.{IsPermutation-refl, IsPermutation-cons, IsPermutation-trans, IsPermutation-append_left, IsPermutation-append_right, IsPermutation-append_comm}
use Rattle.std.proofs.lemmas.Nat.{div-mul-add, mod-mul-add, div-add-mod', div_below, mod_below}
use Rattle.bern_base.specs.declared.matrix.Entry.{Entry}
use Rattle.mm_profile.specs.Entries.{entry_at}
use Rattle.mm_profile.specs.Sums.{sums}
use Rattle.mm_text.specs.Counts.{are_inside}
use Rattle.mm_text.specs.PrintedArrays.{dense_entry}
use Rattle.mm_text.proofs.SumsLemmas.{Rises, rises-sums, sums-IsPermutation}

pub map-flat_map : {A B C : Type 0} (h : B → C) (g : A → List B) (xs : List A) → map h (flat_map g xs) ≡ flat_map (λ x. map h (g x)) xs
map-flat_map h g [] = refl
map-flat_map h g (x ∷ xs) = map-append h (g x) (flat_map g xs) ∙ ap (λ rest. map h (g x) ++ rest) (map-flat_map h g xs)

pub flat_map-flat_map : {A B C : Type 0} (h : B → List C) (g : A → List B) (xs : List A) → flat_map h (flat_map g xs) ≡ flat_map (λ x. flat_map h (g x)) xs
flat_map-flat_map h g [] = refl
flat_map-flat_map h g (x ∷ xs) = flat_map-append h (g x) (flat_map g xs) ∙ ap (λ rest. flat_map h (g x) ++ rest) (flat_map-flat_map h g xs)

pub map-map : {A B C : Type 0} (h : B → C) (g : A → B) (xs : List A) → map h (map g xs) ≡ map (λ x. h (g x)) xs
map-map h g [] = refl
map-map h g (x ∷ xs) = ap (λ rest. h (g x) ∷ rest) (map-map h g xs)

-- functions that agree on a range
map_range_agree : {A : Type 0} (f g : ℕ → A) (a n : ℕ) → ((k : ℕ) → a ≤ k → k < a + n → f k ≡ g k) → map f (range_with_len a n) ≡ map g (range_with_len a n)
map_range_agree f g a zero agree = refl
map_range_agree f g a (suc n) agree =
    rw (agree a (omega arith) (omega arith), map_range_agree f g (a + 1) n (λ k low high. agree k (omega (arith, low)) (omega (arith, high)))) refl

-- a column before the others, laid into the rows
laid : {A B : Type 0} (g : A → B) (h : A → List B) (xs : List A) → IsPermutation (map g xs ++ flat_map h xs) (flat_map (λ x. g x ∷ h x) xs)
laid g h [] = IsPermutation-refl []
laid g h (x ∷ xs) =
    let front = subst (λ l. IsPermutation l ((h x ++ map g xs) ++ flat_map h xs)) (append_assoc (map g xs) (h x) (flat_map h xs))
    (IsPermutation-append_left (flat_map h xs) (map g xs ++ h x) (h x ++ map g xs) (IsPermutation-append_comm (map g xs) (h x))) in
    let back = subst (λ l. IsPermutation (map g xs ++ (h x ++ flat_map h xs)) l) (append_assoc (h x) (map g xs) (flat_map h xs)) front in
    IsPermutation-cons (g x) (map g xs ++ (h x ++ flat_map h xs)) (h x ++ flat_map (λ y. g y ∷ h y) xs)
    (IsPermutation-trans (map g xs ++ (h x ++ flat_map h xs)) (h x ++ (map g xs ++ flat_map h xs)) (h x ++ flat_map (λ y. g y ∷ h y) xs) back
    (IsPermutation-append_right (h x) (map g xs ++ flat_map h xs) (flat_map (λ y. g y ∷ h y) xs) (laid g h xs)))

flat_map_nil : {A B : Type 0} (xs : List A) → flat_map (λ (x : A). let none : List B = [] in none) xs ≡ []
flat_map_nil [] = refl
flat_map_nil (x ∷ xs) = flat_map_nil xs

-- column by column is another order of row by row
pub turned : {A B C : Type 0} (f : A → B → C) (rows : List A) (cols : List B) → IsPermutation (flat_map (λ k. map (λ r. f r k) rows) cols) (flat_map (λ r. map (f r) cols) rows)
turned {C = C} f rows [] = subst (λ (l : List C). IsPermutation [] l) (sym (flat_map_nil rows)) (IsPermutation-refl [])
turned f rows (k ∷ cols) =
    IsPermutation-trans (map (λ r. f r k) rows ++ flat_map (λ j. map (λ r. f r j) rows) cols) (map (λ r. f r k) rows ++ flat_map (λ r. map (f r) cols) rows) (flat_map (λ r. f r k ∷ map (f r) cols) rows)
    (IsPermutation-append_right (map (λ r. f r k) rows) (flat_map (λ j. map (λ r. f r j) rows) cols) (flat_map (λ r. map (f r) cols) rows) (turned f rows cols))
    (laid (λ r. f r k) (λ r. map (f r) cols) rows)

range-append : (a m n : ℕ) → range_with_len a (m + n) ≡ range_with_len a m ++ range_with_len (a + m) n
range-append a zero n = let same : 0 + n ≡ n = omega arith in let start : a + 0 ≡ a = omega arith in rw (same, start) refl
range-append a (suc m) n =
    let more : suc m + n ≡ suc (m + n) = omega arith in
    let start : a + suc m ≡ a + 1 + m = omega arith in
    rw (more, start) (ap (λ rest. a ∷ rest) (range-append (a + 1) m n))

range_shift : (a b n : ℕ) → map (λ k. a + k) (range_with_len b n) ≡ range_with_len (a + b) n
range_shift a b zero = refl
range_shift a b (suc n) =
    let next : a + (b + 1) ≡ a + b + 1 = omega arith in
    ap (λ rest. (a + b) ∷ rest) (range_shift a (b + 1) n ∙ ap (λ c. range_with_len c n) next)

-- element numbers row by row
rows_numbers : (cols a rows : ℕ) → flat_map (λ r. map (λ k. r * cols + k) (range_with_len 0 cols)) (range_with_len a rows) ≡ range_with_len (a * cols) (rows * cols)
rows_numbers cols a zero = let none : 0 * cols ≡ 0 = omega arith in rw none refl
rows_numbers cols a (suc rows) =
    let start : a * cols + 0 ≡ a * cols = omega arith in
    let next : (a + 1) * cols ≡ a * cols + cols = omega arith in
    let size : suc rows * cols ≡ cols + rows * cols = omega arith in
    rw (range_shift (a * cols) 0 cols, start, rows_numbers cols (a + 1) rows, next, size) (sym (range-append (a * cols) cols (rows * cols)))

-- the dense entries are those row by row
dense_rows : (rows cols : ℕ) (values : List ℕ) → map (dense_entry cols values) (range_with_len 0 (rows * cols)) ≡ flat_map (λ r. map (λ k. entry_at r k (slice_index values (r * cols + k))) (range_with_len 0 cols)) (range_with_len 0 rows)
dense_rows rows cols values =
    let none : 0 * cols ≡ 0 = omega arith in
    let row : (r : ℕ) → map (dense_entry cols values) (map (λ k. r * cols + k) (range_with_len 0 cols)) ≡ map (λ k. entry_at r k (slice_index values (r * cols + k))) (range_with_len 0 cols) = (λ r.
    map-map (dense_entry cols values) (λ k. r * cols + k) (range_with_len 0 cols)
    ∙ map_range_agree (λ k. dense_entry cols values (r * cols + k)) (λ k. entry_at r k (slice_index values (r * cols + k))) 0 cols
    (λ k low high. let inside : k < cols = omega (arith, high) in rw (div-mul-add r cols k inside, mod-mul-add r cols k inside) refl)) in
    ap (map (dense_entry cols values)) (sym (rows_numbers cols 0 rows ∙ ap (λ a. range_with_len a (rows * cols)) none))
    ∙ map-flat_map (dense_entry cols values) (λ r. map (λ k. r * cols + k) (range_with_len 0 cols)) (range_with_len 0 rows)
    ∙ ap (λ f. flat_map f (range_with_len 0 rows)) (fun_ext row)

dense_rises : (cols a n : ℕ) (values : List ℕ) → Rises cols a (map (dense_entry cols values) (range_with_len a n))
dense_rises cols a zero values = tt
dense_rises cols a (suc n) values = rw (div-add-mod' a cols) (omega arith, dense_rises cols (a + 1) n values)

dense_inside : (rows cols a n : ℕ) (values : List ℕ) → ((i : ℕ) → slice_index values i < 2 ^ 64) → a + n ≤ rows * cols → are_inside rows cols (map (dense_entry cols values) (range_with_len a n)) ≡ true
dense_inside rows cols a zero values fit below = refl
dense_inside rows zero a (suc n) values fit below = absurd (omega (arith, below))
dense_inside rows (suc cols) a (suc n) values fit below =
    let here : a < rows * suc cols = omega (arith, below) in
    and_from _ _ (and_from _ _ (and_from _ _ (lt-ltb _ _ (div_below a (suc cols) rows (omega arith) here)) (lt-ltb _ _ (mod_below a (suc cols) (omega arith)))) (lt-ltb _ _ (fit a)))
    (dense_inside rows (suc cols) (a + 1) n values fit (omega (arith, below)))

-- entries column by column are summed up to the dense entries
pub sums-columns : (rows cols : ℕ) (values : List ℕ) → ((i : ℕ) → slice_index values i < 2 ^ 64)
    → sums rows cols (flat_map (λ k. map (λ r. entry_at r k (slice_index values (r * cols + k))) (range_with_len 0 rows)) (range_with_len 0 cols)) ≡ map (dense_entry cols values) (range_with_len 0 (rows * cols))
sums-columns rows cols values fit =
    let f : ℕ → ℕ → Entry = λ r k. entry_at r k (slice_index values (r * cols + k)) in
    sym (sums-IsPermutation rows cols (flat_map (λ k. map (λ r. f r k) (range_with_len 0 rows)) (range_with_len 0 cols)) (flat_map (λ r. map (f r) (range_with_len 0 cols)) (range_with_len 0 rows))
    (turned f (range_with_len 0 rows) (range_with_len 0 cols)))
    ∙ ap (sums rows cols) (sym (dense_rows rows cols values))
    ∙ rises-sums rows cols (map (dense_entry cols values) (range_with_len 0 (rows * cols))) (dense_rises cols 0 (rows * cols) values) (dense_inside rows cols 0 (rows * cols) values fit (omega arith))
