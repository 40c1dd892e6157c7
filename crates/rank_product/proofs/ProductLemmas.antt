-- Sums over the entries of a matrix are sums over all points of its box.
use Rattle.std.proofs.Common.{◌≡◌, ℕ, Bool, ◌+◌, ◌*◌, ◌%◌, ◌^◌, ◌<◌, ◌==◌, true, false, List, [], ◌∷◌, map, length, get_or, All, refl, sym, ap, ◌∙◌, subst, ⊎_elim}
use Rattle.std.specs.Prelude.{if◌then◌else◌, slice_index, slice_set}
use Rattle.std.specs.List.{flat_map, fold, sum_by, range_with_len}
use Rattle.std.proofs.Math.Nat.{add-zero, zero-add, add_assoc, zero-mul, mod-lt, mod-mod, mod-eq_of_lt, mod-add-mod}
use Rattle.std.proofs.lemmas.Bool.{cases_eq, eq-eqb, ne_eqb}
use Rattle.std.proofs.lemmas.Grind.{same_number_lists}
use Rattle.std.proofs.lemmas.List.{length-set, length-replicate, get_or-replicate, get_or-set_same, get_or-set_other}
use Rattle.std.proofs.lemmas.List.Sums.{sum_by-cons}
use Rattle.std.proofs.lemmas.Nat.{pow_pos, mul-mod_first, mul-add-lt, same_from_place}
use Rattle.bern_base.specs.declared.matrix.Entry.{Entry}
use Rattle.bern_base.specs.Matrix.{element, matrix_values, number, IsInside}
use Rattle.bern_base.specs.Ring.{ring_add, ring_mul}
use Rattle.bern_base.proofs.SumLemmas.{sum_by-map, sum_by-flat_map, sum_by_agree, sum_by_agree-mod, sum_by-mul, sum_by_none, sum_by-swap, All-range, sum_by_one}
use Rattle.bern_base.proofs.ValuesLemmas.{get_or-matrix_values}
use Rattle.job_model.specs.State.{zeros}

-- all points of the box, the first variable slowest
abbrev pub points : ℕ → List (ℕ × ℕ)
points n = flat_map (λ i. map (λ j. (i, j)) (range_with_len 0 n)) (range_with_len 0 n)

-- a place and the amount that is added there
abbrev pub add_part : List ℕ → ℕ × ℕ → List ℕ
add_part values part = slice_set values part.0 (ring_add (slice_index values part.0) part.1)

abbrev pub summed : ℕ → List (ℕ × ℕ) → List ℕ
summed size parts = fold add_part (zeros size) parts

-- what each entry of a matrix adds to a product with a vector
abbrev pub product_part : List ℕ → Entry → ℕ × ℕ
product_part vector e = (e.row, ring_mul e.value (slice_index vector e.col))

abbrev pub product_parts : List ℕ → List Entry → List (ℕ × ℕ)
product_parts vector entries = map (product_part vector) entries

-- what a part adds at place k
abbrev pub part_at : ℕ → ℕ × ℕ → ℕ
part_at k p = if p.0 == k then p.1 else 0

-- what one point of the loops adds to T, from the values of S and D
abbrev pub dense_part : ℕ → List ℕ → List ℕ → ℕ × ℕ → ℕ × ℕ
dense_part n a x p = (p.0, ring_mul (slice_index a (p.0 * n + p.1)) (slice_index x p.1))

pub length-fold_add_part : (values : List ℕ) (parts : List (ℕ × ℕ)) → length (fold add_part values parts) ≡ length values
length-fold_add_part values [] = refl
length-fold_add_part values (p ∷ ps) = length-fold_add_part (add_part values p) ps ∙ length-set values p.0 (ring_add (slice_index values p.0) p.1)

pub length-summed : (size : ℕ) (parts : List (ℕ × ℕ)) → length (summed size parts) ≡ size
length-summed size parts = length-fold_add_part (zeros size) parts ∙ length-replicate size 0

add-mod_step : (y p s m : ℕ) → ((y + p) % m + s) % m ≡ (y + (p + s)) % m
add-mod_step y p s m = mod-add-mod (y + p) m s ∙ ap (λ t. t % m) (add_assoc y p s)

-- one part adds what it has at its place, and nothing elsewhere
get_or-add_part : (values : List ℕ) (p : ℕ × ℕ) (k : ℕ) → k < length values → slice_index values k < 2 ^ 64 → slice_index (add_part values p) k ≡ (slice_index values k + part_at k p) % 2 ^ 64
get_or-add_part values p k within low =
    let kept : (p.0 ≡ k → ⊥) → slice_index (add_part values p) k ≡ slice_index values k = λ apart.
    get_or-set_other values p.0 k (ring_add (slice_index values p.0) p.1) 0 (λ is. apart (sym is)) in
    ⊎_elim
    (λ here. rw (eq-eqb p.0 k here, here) (get_or-set_same values k (ring_add (slice_index values k) p.1) 0 within))
    (λ apart. rw (ne_eqb p.0 k apart, add-zero (slice_index values k)) (kept apart ∙ sym (mod-eq_of_lt low)))
    (cases_eq p.0 k)

pub get_or-fold_add_part : (values : List ℕ) (parts : List (ℕ × ℕ)) (k : ℕ) → k < length values → slice_index values k < 2 ^ 64 →
    slice_index (fold add_part values parts) k ≡ (slice_index values k + sum_by (part_at k) parts) % 2 ^ 64
get_or-fold_add_part values [] k within low = sym (ap (λ t. t % 2 ^ 64) (add-zero (slice_index values k)) ∙ mod-eq_of_lt low)
get_or-fold_add_part values (p ∷ ps) k within low =
    let next : slice_index (add_part values p) k ≡ (slice_index values k + part_at k p) % 2 ^ 64 = get_or-add_part values p k within low in
    let still : k < length (add_part values p) = subst (λ n. k < n) (sym (length-set values p.0 (ring_add (slice_index values p.0) p.1))) within in
    let small : slice_index (add_part values p) k < 2 ^ 64 = subst (λ v. v < 2 ^ 64) (sym next) (mod-lt (slice_index values k + part_at k p) (pow_pos 64)) in
    get_or-fold_add_part (add_part values p) ps k still small
    ∙ ap (λ v. (v + sum_by (part_at k) ps) % 2 ^ 64) next
    ∙ add-mod_step (slice_index values k) (part_at k p) (sum_by (part_at k) ps) (2 ^ 64)
    ∙ ap (λ s. (slice_index values k + s) % 2 ^ 64) (sym (sum_by-cons (part_at k) p ps))

pub summed_at : (size : ℕ) (parts : List (ℕ × ℕ)) (k : ℕ) → k < size → slice_index (summed size parts) k ≡ sum_by (λ p. if p.0 == k then p.1 else 0) parts % 2 ^ 64
summed_at size parts k within =
    let none : slice_index (zeros size) k ≡ 0 = get_or-replicate size k 0 0 within in
    get_or-fold_add_part (zeros size) parts k (subst (λ n. k < n) (sym (length-replicate size 0)) within) (subst (λ v. v < 2 ^ 64) (sym none) (pow_pos 64))
    ∙ ap (λ v. (v + sum_by (part_at k) parts) % 2 ^ 64) none ∙ ap (λ s. s % 2 ^ 64) (zero-add (sum_by (part_at k) parts))

if_mod : (b : Bool) (w m : ℕ) → (if b then w % m else 0) % m ≡ (if b then w else 0) % m
if_mod true w m = mod-mod w m
if_mod false w m = refl

-- what an entry adds to the element in row k and column j, times v j
abbrev pub term : ℕ → ℕ → (ℕ → ℕ) → Entry → ℕ → ℕ
term n k v e j = (if number n e == k * n + j then e.value else 0) * v j

term_apart : (n k : ℕ) (v : ℕ → ℕ) (e : Entry) (j : ℕ) → (number n e ≡ k * n + j → ⊥) → term n k v e j ≡ 0
term_apart n k v e j apart = rw (ne_eqb (number n e) (k * n + j) apart) (zero-mul (v j))

-- an entry of row k adds to its own column alone, and one of another row to none
terms_in_row : (n k : ℕ) (v : ℕ → ℕ) (e : Entry) → IsInside n n e → e.row ≡ k → sum_by (term n k v e) (range_with_len 0 n) ≡ e.value * v e.col
terms_in_row n k v e inside here =
    let others : (j : ℕ) → j < n → (j ≡ e.col → ⊥) → term n k v e j ≡ 0 = λ j below apart.
    term_apart n k v e j (λ is. apart (sym (same_from_place e.row e.col k j n inside.1 below is).1)) in
    sum_by_one (term n k v e) n e.col inside.1 others ∙ rw (eq-eqb (number n e) (k * n + e.col) (ap (λ r. r * n + e.col) here)) refl

terms_in_other_row : (n k : ℕ) (v : ℕ → ℕ) (e : Entry) → IsInside n n e → (e.row ≡ k → ⊥) → sum_by (term n k v e) (range_with_len 0 n) ≡ 0
terms_in_other_row n k v e inside apart =
    let each : (j : ℕ) → j < n → term n k v e j ≡ 0 = λ j below. term_apart n k v e j (λ is. apart (same_from_place e.row e.col k j n inside.1 below is).0) in
    sum_by_none (term n k v e) (range_with_len 0 n) (All-range (λ j. term n k v e j ≡ 0) n each)

terms_of : (n k : ℕ) (v : ℕ → ℕ) (e : Entry) → IsInside n n e → (if e.row == k then e.value * v e.col else 0) ≡ sum_by (term n k v e) (range_with_len 0 n)
terms_of n k v e inside = ⊎_elim
    (λ here. rw (eq-eqb e.row k here) (sym (terms_in_row n k v e inside here)))
    (λ apart. rw (ne_eqb e.row k apart) (sym (terms_in_other_row n k v e inside apart)))
    (cases_eq e.row k)

-- the product of row k and a vector: the sum over its entries, and over its columns
row_product : (n k : ℕ) (v : ℕ → ℕ) (a : List Entry) → All (IsInside n n) a →
    sum_by (λ e. if e.row == k then e.value * v e.col else 0) a ≡ sum_by (λ j. sum_by (λ e. if number n e == k * n + j then e.value else 0) a * v j) (range_with_len 0 n)
row_product n k v a inside =
    let value : ℕ → Entry → ℕ = λ j e. if number n e == k * n + j then e.value else 0 in
    let columns : List ℕ = range_with_len 0 n in
    sum_by_agree (λ e. if e.row == k then e.value * v e.col else 0) (λ e. sum_by (term n k v e) columns) a (λ i d under. terms_of n k v (get_or a i d) (inside i d under))
    ∙ sum_by-swap (term n k v) a columns
    ∙ sum_by_agree (λ j. sum_by (λ e. term n k v e j) a) (λ j. sum_by (value j) a * v j) columns
    (λ i d under. let j : ℕ = get_or columns i d in sum_by-mul (value j) (v j) a)

-- the same modulo m, with a remainder taken of each value and each product
row_product-mod : (m n k : ℕ) (v : ℕ → ℕ) (a : List Entry) → All (IsInside n n) a →
    sum_by (λ e. if e.row == k then (e.value * v e.col) % m else 0) a % m
    ≡ sum_by (λ j. (sum_by (λ e. if number n e == k * n + j then e.value else 0) a % m * v j) % m) (range_with_len 0 n) % m
row_product-mod m n k v a inside =
    let value : ℕ → ℕ = λ j. sum_by (λ e. if number n e == k * n + j then e.value else 0) a in
    let columns : List ℕ = range_with_len 0 n in
    let reduced : (j : ℕ) → value j * v j % m ≡ (value j % m * v j) % m % m = λ j. sym (mod-mod (value j % m * v j) m ∙ mul-mod_first (value j) (v j) m) in
    sum_by_agree-mod m (λ e. if e.row == k then (e.value * v e.col) % m else 0) (λ e. if e.row == k then e.value * v e.col else 0) a
    (λ i d under. let e : Entry = get_or a i d in if_mod (e.row == k) (e.value * v e.col) m)
    ∙ ap (λ s. s % m) (row_product n k v a inside)
    ∙ sum_by_agree-mod m (λ j. value j * v j) (λ j. (value j % m * v j) % m) columns (λ i d under. reduced (get_or columns i d))

-- of all points, those of row k
sum_over_points : (n k : ℕ) (g : ℕ × ℕ → ℕ) → k < n → sum_by (λ p. if p.0 == k then g p else 0) (points n) ≡ sum_by (λ j. g (k, j)) (range_with_len 0 n)
sum_over_points n k g below =
    let f : ℕ × ℕ → ℕ = λ p. if p.0 == k then g p else 0 in
    let columns : List ℕ = range_with_len 0 n in
    let row : ℕ → List (ℕ × ℕ) = λ i. map (λ j. (i, j)) columns in
    let row_sum : (i : ℕ) → sum_by f (row i) ≡ sum_by (λ j. if i == k then g (i, j) else 0) columns = λ i. sum_by-map f (λ j. (i, j)) columns in
    sum_by-flat_map f row columns
    ∙ sum_by_one (λ i. sum_by f (row i)) n k below (λ i under apart. row_sum i ∙ rw (ne_eqb i k apart) (sum_by_none (λ j. 0) columns (λ l d within. refl)))
    ∙ row_sum k ∙ rw (eq-eqb k k refl) refl

-- what the loops add to T in row k
dense_parts_at : (n k : ℕ) (a : List Entry) (x : List ℕ) → k < n →
    sum_by (part_at k) (map (dense_part n (matrix_values n n a) x) (points n)) ≡ sum_by (λ j. ring_mul (element n a (k * n + j)) (slice_index x j)) (range_with_len 0 n)
dense_parts_at n k a x below =
    let values : List ℕ = matrix_values n n a in
    let product : ℕ → ℕ → ℕ = λ i j. ring_mul (slice_index values (i * n + j)) (slice_index x j) in
    let read : (j : ℕ) → j < n → product k j ≡ ring_mul (element n a (k * n + j)) (slice_index x j) = λ j under.
    ap (λ v. ring_mul v (slice_index x j)) (get_or-matrix_values n n a (k * n + j) (mul-add-lt k n j n below under)) in
    sum_by-map (part_at k) (dense_part n values x) (points n)
    ∙ sum_over_points n k (λ p. product p.0 p.1) below
    ∙ sum_by_agree (product k) (λ j. ring_mul (element n a (k * n + j)) (slice_index x j)) (range_with_len 0 n)
    (All-range (λ j. product k j ≡ ring_mul (element n a (k * n + j)) (slice_index x j)) n read)

-- for any list x of values; those past its end count as 0
pub summed-product_parts : (n : ℕ) (a : List Entry) (x : List ℕ) → All (IsInside n n) a →
    summed n (product_parts x a) ≡ summed n (map (dense_part n (matrix_values n n a) x) (points n))
summed-product_parts n a x inside =
    let parts : List (ℕ × ℕ) = product_parts x a in
    let dense_parts : List (ℕ × ℕ) = map (dense_part n (matrix_values n n a) x) (points n) in
    same_number_lists (summed n parts) (summed n dense_parts) (length-summed n parts ∙ sym (length-summed n dense_parts)) (λ k within.
    let below : k < n = subst (λ m. k < m) (length-summed n parts) within in
    summed_at n parts k below
    ∙ ap (λ s. s % 2 ^ 64) (sum_by-map (part_at k) (product_part x) a)
    ∙ row_product-mod (2 ^ 64) n k (slice_index x) a inside
    ∙ ap (λ s. s % 2 ^ 64) (sym (dense_parts_at n k a x below))
    ∙ sym (summed_at n dense_parts k below))
