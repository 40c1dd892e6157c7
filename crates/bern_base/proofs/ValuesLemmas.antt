-- The values of a matrix, an entry at a time.
use Rattle.std.proofs.Common.{◌≡◌, ◌≢◌, ◌∙◌, ℕ, ◌+◌, ◌*◌, ◌%◌, ◌^◌, ◌<◌, ◌≤◌, ◌==◌, List, [], ◌∷◌, ◌++◌, map, length, take, get_or, refl, sym, ap, subst, ⊎_elim, arith}
use Rattle.std.specs.Prelude.{if◌then◌else◌, replicate, slice_index, slice_set}
use Rattle.std.specs.List.{All, sum_by}
use Rattle.std.specs.List.Sorted.{IsStrictlyIncreasing}
use Rattle.std.proofs.Math.Nat.{add-zero, mul_comm, zero-add}
use Rattle.std.proofs.lemmas.Bool.{cases_eq, ne_eqb}
use Rattle.std.proofs.lemmas.Grind.{same_number_lists}
use Rattle.std.proofs.lemmas.List.{length-set, length-map, length-take-le, length-replicate, get_or-replicate, get_or-set_same, get_or-set_other, get_or-take, take-map, take_more}
use Rattle.std.proofs.lemmas.List.FromFn.{length-map-range_with_len, get_or-map-range_with_len}
use Rattle.std.proofs.lemmas.List.Sums.{sum_by-cons, sum_by-append}
use Rattle.std.proofs.lemmas.Nat.{mul-add-lt}
use Rattle.bern_base.specs.declared.matrix.Entry.{Entry}
use Rattle.bern_base.specs.Matrix.{element, matrix_values, number, IsInside}
use Rattle.bern_base.proofs.ElementLemmas.{element_one}

pub get_or-matrix_values : (rows cols : ℕ) (entries : List Entry) (i : ℕ) → i < rows * cols → slice_index (matrix_values rows cols entries) i ≡ element cols entries i
get_or-matrix_values rows cols entries i within = get_or-map-range_with_len (element cols entries) 0 (rows * cols) i i 0 within (zero-add i)

-- an entry's number is below that of all elements
pub number_below : (rows cols : ℕ) (xs : List Entry) (i : ℕ) (e : Entry) → All (IsInside rows cols) xs → i < length xs → e ≡ get_or xs i e → number cols e < rows * cols
number_below rows cols xs i e inside below is =
    let here : IsInside rows cols e = subst (IsInside rows cols) (sym is) (inside i e below) in
    subst (λ n. number cols e < n) (mul_comm cols rows) (mul-add-lt e.row cols e.col rows here.0 here.1)

-- an entry that stands elsewhere adds nothing
element_push : (cols : ℕ) (xs : List Entry) (e : Entry) (k : ℕ) → number cols e ≢ k → element cols (xs ++ e ∷ []) k ≡ element cols xs k
element_push cols xs e k apart =
    let f : Entry → ℕ = λ x. if number cols x == k then x.value else 0 in
    let none : f e ≡ 0 = rw (ne_eqb (number cols e) k apart) refl in
    ap (λ s. s % 2 ^ 64) (sum_by-append f xs (e ∷ []) ∙ ap (λ s. sum_by f xs + s) (sum_by-cons f e [] ∙ add-zero (f e) ∙ none) ∙ add-zero (sum_by f xs))

-- the front of a list that rises
front_rises : (ns : List ℕ) (n : ℕ) → n ≤ length ns → IsStrictlyIncreasing ns → IsStrictlyIncreasing (take n ns)
front_rises ns n within rise k below =
    let under : k + 1 < n = subst (λ m. k + 1 < m) (length-take-le n ns within) below in
    rw (get_or-take n ns k 0 (omega (arith, under)), get_or-take n ns (k + 1) 0 under) (rise k (omega (arith, under, within)))

-- one entry more is put in its place
pub one_entry : (rows cols : ℕ) (xs : List Entry) (i : ℕ) (e : Entry) → IsStrictlyIncreasing (map (number cols) xs) → i < length xs → e ≡ get_or xs i e → number cols e < rows * cols → e.value < 2 ^ 64 →
    slice_set (matrix_values rows cols (take i xs)) (number cols e) e.value ≡ matrix_values rows cols (take (i + 1) xs)
one_entry rows cols xs i e rise below is inside fits =
    let before = matrix_values rows cols (take i xs) in
    let long : length before ≡ rows * cols = length-map-range_with_len (element cols (take i xs)) 0 (rows * cols) in
    let after : length (matrix_values rows cols (take (i + 1) xs)) ≡ rows * cols = length-map-range_with_len (element cols (take (i + 1) xs)) 0 (rows * cols) in
    let kept : length (slice_set before (number cols e) e.value) ≡ length before = length-set before (number cols e) e.value in
    let more : take (i + 1) xs ≡ take i xs ++ e ∷ [] = take_more xs i e below ∙ ap (λ x. take i xs ++ x ∷ []) (sym is) in
    let up : IsStrictlyIncreasing (map (number cols) (take (i + 1) xs)) =
    subst IsStrictlyIncreasing (take-map (number cols) (i + 1) xs) (front_rises (map (number cols) xs) (i + 1) (omega (arith, length-map xs (number cols), below)) rise) in
    let last : i < length (take (i + 1) xs) = omega (arith, length-take-le (i + 1) xs (omega (arith, below))) in
    let there : e ≡ get_or (take (i + 1) xs) i e = is ∙ sym (get_or-take (i + 1) xs i e (omega arith)) in
    same_number_lists (slice_set before (number cols e) e.value) (matrix_values rows cols (take (i + 1) xs)) (kept ∙ long ∙ sym after) (λ k within.
    let under : k < rows * cols = omega (arith, within, kept, long) in
    ⊎_elim
    (λ here.
    subst (λ n. slice_index (slice_set before (number cols e) e.value) n ≡ slice_index (matrix_values rows cols (take (i + 1) xs)) n) (sym here)
    (get_or-set_same before (number cols e) e.value 0 (omega (arith, inside, long))
    ∙ sym (element_one cols (take (i + 1) xs) (number cols e) i e up last there refl fits)
    ∙ sym (get_or-matrix_values rows cols (take (i + 1) xs) (number cols e) inside)))
    (λ apart.
    get_or-set_other before (number cols e) k e.value 0 apart
    ∙ get_or-matrix_values rows cols (take i xs) k under
    ∙ sym (element_push cols (take i xs) e k (λ same. apart (sym same)))
    ∙ ap (λ l. element cols l k) (sym more)
    ∙ sym (get_or-matrix_values rows cols (take (i + 1) xs) k under))
    (cases_eq k (number cols e)))

-- without entries all values are 0
pub no_entries : (rows cols : ℕ) → replicate (rows * cols) 0 ≡ matrix_values rows cols []
no_entries rows cols =
    let long : length (matrix_values rows cols []) ≡ rows * cols = length-map-range_with_len (element cols []) 0 (rows * cols) in
    same_number_lists (replicate (rows * cols) 0) (matrix_values rows cols []) (length-replicate (rows * cols) 0 ∙ sym long) (λ k within.
    let under : k < rows * cols = omega (arith, within, length-replicate {A = ℕ} (rows * cols) 0) in
    get_or-replicate (rows * cols) k 0 0 under ∙ sym (get_or-matrix_values rows cols [] k under))
