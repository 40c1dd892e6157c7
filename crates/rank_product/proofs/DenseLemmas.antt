-- What the dense loops of a product leave: in T its sums over the entries of S, and all else as it was.
use Rattle.std.proofs.Common.{◌≡◌, ◌≢◌, ℕ, ◌+◌, ◌*◌, ◌%◌, ◌^◌, ◌<◌, Bool, true, false, ◌==◌, List, [], ◌∷◌, length, map, get_or, set, refl, sym, ap, ◌∙◌, subst}
use Rattle.std.specs.Prelude.{if◌then◌else◌, slice_index}
use Rattle.std.specs.List.{All, fold, sum_by, range_with_len}
use Rattle.std.proofs.Math.Nat.{zero-add, mod-mod, add-mod-mod}
use Rattle.std.proofs.lemmas.Grind.{same_number_lists}
use Rattle.std.proofs.lemmas.List.{get_or-set_same, get_or-set_other, length-set, set-get_or, set-set}
use Rattle.std.proofs.lemmas.List.FromFn.{length-map-range_with_len, get_or-map-range_with_len}
use Rattle.bern_base.specs.declared.matrix.Entry.{Entry}
use Rattle.bern_base.specs.Ring.{ring_add, ring_mul}
use Rattle.bern_base.specs.Matrix.{IsInside, matrix_values}
use Rattle.job_model.specs.State.{State, values_in, read, write}
use Rattle.bern_base.proofs.SumLemmas.{sum_by-map, sum_by_agree-mod}
use Rattle.rank_product.specs.declared.shape.ProductShape.{ProductShape}
use Rattle.rank_product.proofs.ProductLemmas.{add_part, dense_part, get_or-fold_add_part, length-fold_add_part, part_at, points, product_part, product_parts, summed_at, summed-product_parts}

-- one point of the loops T[v] += S[v,w] * D[w], read in the state reached so far
abbrev pub at_point : ProductShape → State → ℕ × ℕ → State
at_point p state point = write state p.target point.0
    (ring_add (read state p.target point.0) (ring_mul (read state p.stored (point.0 * p.size + point.1)) (read state p.source point.1)))

-- the state after the loops, in program order
abbrev pub dense : ProductShape → State → State
dense p first = fold (at_point p) first (points p.size)

-- the three arrays of a product before its loops: T with n values, S with these entries, and D with these values
pub record AreArrays (p : ProductShape) (state : State) (s : List ℕ) (d : List ℕ) : Type 0 where
  pub target : p.target < length state
  pub off_stored : p.stored ≢ p.target
  pub off_source : p.source ≢ p.target
  pub stored : values_in state p.stored ≡ s
  pub source : values_in state p.source ≡ d

arrays_after : (p : ProductShape) (state : State) (s d values : List ℕ) → AreArrays p state s d → AreArrays p (set state p.target values) s d
arrays_after p state s d values are = record {
  target = subst (λ n. p.target < n) (sym (length-set state p.target values)) are.target;
  off_stored = are.off_stored;
  off_source = are.off_source;
  stored = get_or-set_other state p.target p.stored values [] are.off_stored ∙ are.stored;
  source = get_or-set_other state p.target p.source values [] are.off_source ∙ are.source;
}

-- the loops put new values in T, and nothing else changes
fold_at_point : (p : ProductShape) (state : State) (s d : List ℕ) (ps : List (ℕ × ℕ)) → AreArrays p state s d →
    fold (at_point p) state ps ≡ set state p.target (fold add_part (values_in state p.target) (map (dense_part p.size s d) ps))
fold_at_point p state s d [] are = sym (set-get_or state p.target [])
fold_at_point p state s d (q ∷ qs) are =
    let amount : List ℕ → List ℕ → ℕ × ℕ = λ a x. dense_part p.size a x q in
    let read_values : List ℕ = add_part (values_in state p.target) (amount (values_in state p.stored) (values_in state p.source)) in
    let values : List ℕ = add_part (values_in state p.target) (amount s d) in
    let later : List ℕ → List ℕ = λ v. fold add_part v (map (dense_part p.size s d) qs) in
    let same : read_values ≡ values =
    ap (λ a. add_part (values_in state p.target) (amount a (values_in state p.source))) are.stored ∙ ap (λ x. add_part (values_in state p.target) (amount s x)) are.source in
    ap (λ v. fold (at_point p) (set state p.target v) qs) same
    ∙ fold_at_point p (set state p.target values) s d qs (arrays_after p state s d values are)
    ∙ ap (λ v. set (set state p.target values) p.target (later v)) (get_or-set_same state p.target values [] are.target)
    ∙ set-set state p.target values (later values)

-- a product under a test, and its remainder
if-mod : (m : ℕ) (b : Bool) (w : ℕ) → (if b then w else 0) % m ≡ (if b then w % m else 0) % m
if-mod m true w = sym (mod-mod w m)
if-mod m false w = refl

-- the sum of a row over the entries, and over all points
row-sum : (n k : ℕ) (a : List Entry) (d : List ℕ) → All (IsInside n n) a → k < n →
    sum_by (λ e. if e.row == k then e.value * slice_index d e.col else 0) a % 2 ^ 64 ≡ sum_by (part_at k) (map (dense_part n (matrix_values n n a) d) (points n)) % 2 ^ 64
row-sum n k a d inside below =
    let dense_parts : List (ℕ × ℕ) = map (dense_part n (matrix_values n n a) d) (points n) in
    sum_by_agree-mod (2 ^ 64) (λ e. if e.row == k then e.value * slice_index d e.col else 0) (λ e. part_at k (product_part d e)) a
    (λ i z under. let e : Entry = get_or a i z in if-mod (2 ^ 64) (e.row == k) (e.value * slice_index d e.col))
    ∙ ap (λ s. s % 2 ^ 64) (sym (sum_by-map (part_at k) (product_part d) a))
    ∙ sym (summed_at n (product_parts d a) k below)
    ∙ ap (λ values. slice_index values k) (summed-product_parts n a d inside)
    ∙ summed_at n dense_parts k below

-- after the loops T has its sums over the entries of S, and all else is as before
pub sums-dense : (p : ProductShape) (first : State) (a : List Entry) (values : ℕ → ℕ) → AreArrays p first (matrix_values p.size p.size a) (values_in first p.source) →
    All (IsInside p.size p.size) a → length (values_in first p.target) ≡ p.size → ((k : ℕ) → k < p.size → read first p.target k < 2 ^ 64) →
    ((k : ℕ) → values k ≡ (read first p.target k + sum_by (λ e. if e.row == k then e.value * read first p.source e.col else 0) a) % 2 ^ 64) →
    dense p first ≡ set first p.target (map values (range_with_len 0 p.size))
sums-dense p first a values are inside long low each =
    let n : ℕ = p.size in
    let d : List ℕ = values_in first p.source in
    let before : List ℕ = values_in first p.target in
    let parts : List (ℕ × ℕ) = map (dense_part n (matrix_values n n a) d) (points n) in
    let wide : length (map values (range_with_len 0 n)) ≡ n = length-map-range_with_len values 0 n in
    fold_at_point p first (matrix_values n n a) d (points n) are
    ∙ ap (set first p.target) (sym (same_number_lists (map values (range_with_len 0 n)) (fold add_part before parts) (wide ∙ sym (length-fold_add_part before parts ∙ long)) (λ k within.
    let below : k < n = subst (λ m. k < m) wide within in
    let sum : ℕ = sum_by (λ e. if e.row == k then e.value * slice_index d e.col else 0) a in
    get_or-map-range_with_len values 0 n k k 0 below (zero-add k)
    ∙ each k
    ∙ sym (add-mod-mod (slice_index before k) sum (2 ^ 64))
    ∙ ap (λ s. (slice_index before k + s) % 2 ^ 64) (row-sum n k a d inside below)
    ∙ add-mod-mod (slice_index before k) (sum_by (part_at k) parts) (2 ^ 64)
    ∙ sym (get_or-fold_add_part before parts k (subst (λ m. k < m) (sym long) below) (low k below)))))
