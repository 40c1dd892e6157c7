-- Views by the numbers of their arrays, and products that grow by a factor.
use Rattle.std.proofs.Common.{◌≡◌, ◌∙◌, ℕ, zero, suc, ◌+◌, ◌*◌, ◌%◌, ◌^◌, ◌<◌, Bool, true, false, ◌&&◌, List, [], ◌∷◌, ◌++◌, length, map, take, get_or, Option, Some, None, refl, sym, ap, subst, arith}
use Rattle.std.specs.Prelude.{slice_get, slice_index_or}
use Rattle.std.specs.List.{All, Contains, list_all, range_with_len, sum_by}
use Rattle.std.proofs.lemmas.List.Elements.{All-append, All-cons, All-contains, All-nil}
use Rattle.std.proofs.Math.Nat.{mod-mod, mul-one, one-mul, mul_assoc, zero-add}
use Rattle.std.proofs.lemmas.List.{map-append, take_more}
use Rattle.std.proofs.lemmas.List.Folds.{list_all_more}
use Rattle.std.proofs.lemmas.List.FromFn.{map-range_with_len_more}
use Rattle.std.proofs.lemmas.List.Sums.{sum_by_more}
use Rattle.std.proofs.lemmas.Nat.{mul-mod_first}
use Rattle.std.proofs.lemmas.Option.{get_or_from_slice_get, slice_get_within}
use Rattle.format_model.specs.Grids.{Grid, HasElement}
use Rattle.format_model.specs.Trees.{IsLeaf, Tree}
use Rattle.job_model.specs.Values.{product_of}
use Rattle.bern_base.specs.declared.job.Ref.{Ref}
use Rattle.plan_courses.specs.JobCourses.{IsPlanOf, no_ref, ref_at}
use Rattle.term_model.specs.declared.plan.PlannedTerm.{PlannedTerm}
use Rattle.split_exec.specs.Passing.{CanPass}
use Rattle.split_exec.specs.Settings.{Setting}
use Rattle.term_model.specs.declared.term.Term.{Term}
use Rattle.visits.specs.Ways.{no_tree}

-- ---- views

pub grid_low : (grids : List (Option Grid)) (n k : ℕ) → HasElement (slice_index_or grids n None) k → n < length grids
grid_low [] n k has = absurd has
grid_low (g ∷ grids) zero k has = omega arith
grid_low (g ∷ grids) (suc n) k has = let rest = grid_low grids n k has in omega (arith, rest)

pub tree_low : (trees : List Tree) (n leaf : ℕ) → IsLeaf (slice_index_or trees n no_tree) leaf → n < length trees
tree_low [] n leaf is = absurd (omega (arith, is))
tree_low (t ∷ trees) zero leaf is = omega arith
tree_low (t ∷ trees) (suc n) leaf is = let rest = tree_low trees n leaf is in omega (arith, rest)

-- ---- lists

pub contains_at : {X : Type 0} (xs : List X) (n : ℕ) (x : X) → slice_get xs n ≡ Some x → Contains xs x
contains_at xs n x some = (n, slice_get_within xs n x some, get_or_from_slice_get xs n x x some)

-- one that fails
pub all_fails : {X : Type 0} (p : X → Bool) (xs : List X) (n : ℕ) (x : X) → slice_get xs n ≡ Some x → p x ≡ false → list_all p xs ≡ false
all_fails p [] n x some fails = absurd cc
all_fails p (y ∷ xs) zero x some fails = let same : y ≡ x = cc in ap (λ b. b && list_all p xs) (ap p same ∙ fails)
all_fails p (y ∷ xs) (suc n) x some fails = ap (λ b. p y && b) (all_fails p xs n x some fails) ∙ by (p y)
  where
    by : (b : Bool) → (b && false) ≡ false
    by true = refl
    by false = refl

pub all_more : {X : Type 0} (p : X → Bool) (xs : List X) (n : ℕ) (x : X) → slice_get xs n ≡ Some x → list_all p (take n xs) ≡ true → p x ≡ true → list_all p (take (n + 1) xs) ≡ true
all_more p xs n x some before here =
    list_all_more p xs n x (slice_get_within xs n x some) ∙ ap (λ b. b && p (get_or xs n x)) before ∙ ap p (get_or_from_slice_get xs n x x some) ∙ here

-- ---- products

product_push : (xs : List ℕ) (y : ℕ) → product_of (xs ++ y ∷ []) ≡ product_of xs * y
product_push [] y = mul-one y ∙ sym (one-mul y)
product_push (x ∷ xs) y = ap (λ n. x * n) (product_push xs y) ∙ sym (mul_assoc x (product_of xs) y)

pub product_more : {X : Type 0} (f : X → ℕ) (xs : List X) (n : ℕ) (x : X) → slice_get xs n ≡ Some x → product_of (map f (take (n + 1) xs)) ≡ product_of (map f (take n xs)) * f x
product_more f xs n x some =
    ap (λ ys. product_of (map f ys)) (take_more xs n x (slice_get_within xs n x some) ∙ ap (λ y. take n xs ++ y ∷ []) (get_or_from_slice_get xs n x x some))
    ∙ ap product_of (map-append f (take n xs) (x ∷ []))
    ∙ product_push (map f (take n xs)) (f x)

pub product_range : (f : ℕ → ℕ) (n : ℕ) → product_of (map f (range_with_len 0 (n + 1))) ≡ product_of (map f (range_with_len 0 n)) * f n
product_range f n = ap product_of (map-range_with_len_more f 0 n n (zero-add n)) ∙ product_push (map f (range_with_len 0 n)) (f n)

-- a product of the ring, times one factor more
pub ring_more : (now first p v next : ℕ) → now % 2 ^ 64 ≡ first * p % 2 ^ 64 → next ≡ p * v → (now * v % 2 ^ 64) % 2 ^ 64 ≡ first * next % 2 ^ 64
ring_more now first p v next so_far is =
    mod-mod (now * v) (2 ^ 64)
    ∙ sym (mul-mod_first now v (2 ^ 64))
    ∙ ap (λ n. n * v % 2 ^ 64) so_far
    ∙ mul-mod_first (first * p) v (2 ^ 64)
    ∙ ap (λ n. n % 2 ^ 64) (mul_assoc first p v ∙ ap (λ n. first * n) (sym is))

-- a reference by its place
pub ref_is : (t : Term) (r : ℕ) (ref : Ref) → slice_get t.sparse r ≡ Some ref → ref_at t r ≡ ref
ref_is t r ref some = get_or_from_slice_get t.sparse r ref no_ref some

pub All-take_more : {X : Type 0} (P : X → Type 0) (xs : List X) (n : ℕ) (x : X) → slice_get xs n ≡ Some x → All P (take n xs) → P x → All P (take (n + 1) xs)
All-take_more P xs n x some all here =
    subst (All P) (sym (take_more xs n x (slice_get_within xs n x some) ∙ ap (λ y. take n xs ++ y ∷ []) (get_or_from_slice_get xs n x x some)))
    (All-append P (take n xs) (x ∷ []) all (All-cons P x [] here (All-nil P)))

pub sum_more : {X : Type 0} (f : X → ℕ) (xs : List X) (n : ℕ) (x : X) → slice_get xs n ≡ Some x → sum_by f (take (n + 1) xs) ≡ sum_by f (take n xs) + f x
sum_more f xs n x some = sum_by_more f xs n x (slice_get_within xs n x some) ∙ ap (λ y. sum_by f (take n xs) + f y) (get_or_from_slice_get xs n x x some)

-- a pass over one of its terms
pub one_pass : (s : Setting) (rank : ℕ) (planned : List PlannedTerm) (n : ℕ) (p : PlannedTerm) → CanPass s rank planned → slice_get planned n ≡ Some p → CanPass s rank (p ∷ [])
one_pass s rank planned n p can some = record {
  at = can.at;
  nest_is = can.nest_is;
  some = can.some;
  plans = All-cons (λ p. IsPlanOf s.job s.nest p.term p.plan) p [] (All-contains (λ p. IsPlanOf s.job s.nest p.term p.plan) planned p can.plans (contains_at planned n p some)) (All-nil (λ p. IsPlanOf s.job s.nest p.term p.plan));
  entries = can.entries;
  parts = can.parts;
}
