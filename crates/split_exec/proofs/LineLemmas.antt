-- Products of all values but one, and what stays along a line.
use Rattle.std.proofs.Common.{◌≡◌, ◌≢◌, ◌∙◌, ℕ, zero, suc, ◌+◌, ◌*◌, ◌%◌, ◌^◌, ◌<◌, ◌≤◌, ◌==◌, ◌&&◌, Bool, true, false, List, [], ◌∷◌, length, map, Option, Some, None, ℤ, pos, ◌*ℤ◌, refl, sym, ap, subst, ⊎_elim, arith}
use Rattle.std.specs.Prelude.{if◌then◌else◌, not, slice_get, slice_set}
use Rattle.std.specs.List.{list_all, range_with_len}
use Rattle.std.specs.Ordering.{int_eq}
use Rattle.std.proofs.Math.Nat.{mul-one, mul_assoc, mul_comm, mod-mod, zero-add}
use Rattle.std.proofs.lemmas.Bool.{and_parts, cases_eq, cases_lt, eq-eqb, le-ltb, lt-ltb, ne_eqb, not-false, not-true}
use Rattle.std.proofs.lemmas.Bool.Decides.{Decides-int_eq}
use Rattle.std.proofs.lemmas.Int.{ints}
use Rattle.std.proofs.lemmas.Nat.{mul-mod_first}
use Rattle.bern_base.specs.Affine.{AffineForm, number_of, value_at}
use Rattle.bern_base.specs.declared.job.ArrayDecl.{ArrayDecl}
use Rattle.bern_base.specs.declared.job.Checked.{Checked}
use Rattle.bern_base.specs.declared.job.Ref.{Ref}
use Rattle.bern_base.proofs.AffineLemmas.{value_at-set}
use Rattle.job_model.specs.Elements.{cols_of}
use Rattle.job_model.specs.Points.{natural}
use Rattle.job_model.specs.Values.{product_of}
use Rattle.pass_model.specs.Interior.{is_interior, is_own}
use Rattle.pass_model.specs.Local.{local_at, triples_in}
use Rattle.plan_courses.specs.JobCourses.{no_ref}
use Rattle.term_model.specs.declared.term.Term.{Term}
use Rattle.term_model.specs.Answers.{Places, owner_in}
use Rattle.term_model.specs.Plans.{has_factor}
use Rattle.split_exec.specs.Hits.{cell_at, spot, spot_in}
use Rattle.split_exec.specs.Runs.{LacksOne, OwnsAt, OwnsOthers, at_or_one, but, cell_by, product_but, stays}
use Rattle.split_exec.specs.Settings.{Setting}
use Rattle.split_exec.proofs.MeaningLemmas.{maps_by_place}
use Rattle.split_exec.proofs.ViewLemmas.{all_fails, product_range}

-- ---- products

but_here : (n : ℕ) (f : ℕ → ℕ) (k : ℕ) → k ≡ n → but n f k ≡ 1
but_here n f k is = ap (λ b. if b then 1 else f k) (eq-eqb k n is)

but_there : (n : ℕ) (f : ℕ → ℕ) (k : ℕ) → (k ≡ n → ⊥) → but n f k ≡ f k
but_there n f k apart = ap (λ b. if b then 1 else f k) (ne_eqb k n apart)

pub one_past : (n : ℕ) (f : ℕ → ℕ) (count : ℕ) → count ≤ n → at_or_one n f count ≡ 1
one_past n f count past = ap (λ b. if b then f n else 1) (le-ltb n count past)

pub one_at : (n : ℕ) (f : ℕ → ℕ) (count : ℕ) → n < count → at_or_one n f count ≡ f n
one_at n f count low = ap (λ b. if b then f n else 1) (lt-ltb n count low)

-- one value more
pub but_passed : (n : ℕ) (f : ℕ → ℕ) (count : ℕ) → count ≡ n → product_but n f (count + 1) ≡ product_but n f count
but_passed n f count is = product_range (but n f) count ∙ ap (λ v. product_but n f count * v) (but_here n f count is) ∙ mul-one (product_but n f count)

pub but_more : (n : ℕ) (f : ℕ → ℕ) (count : ℕ) → (count ≡ n → ⊥) → product_but n f (count + 1) ≡ product_but n f count * f count
but_more n f count apart = product_range (but n f) count ∙ ap (λ v. product_but n f count * v) (but_there n f count apart)

swap_last : (a b c : ℕ) → a * b * c ≡ a * c * b
swap_last a b c = mul_assoc a b c ∙ ap (λ n. a * n) (mul_comm b c) ∙ sym (mul_assoc a c b)

next : (count : ℕ) → count + 1 ≡ suc count
next count = omega arith

pub past_end : {X : Type 0} (xs : List X) (n : ℕ) → slice_get xs n ≡ None → length xs ≤ n
past_end [] n none = omega arith
past_end (x ∷ xs) zero none = absurd cc
past_end (x ∷ xs) (suc n) none = let rest = past_end xs n none in omega (arith, rest)

-- the product of all is that of all but one times that one
pub split_product : (n : ℕ) (f : ℕ → ℕ) (count : ℕ) → product_of (map f (range_with_len 0 count)) ≡ product_but n f count * at_or_one n f count
split_product n f zero = sym (ap (λ v. 1 * v) (one_past n f zero (omega arith)))
split_product n f (suc count) =
    subst (λ m. product_of (map f (range_with_len 0 m)) ≡ product_but n f m * at_or_one n f m) (next count)
    (product_range f count ∙ ap (λ v. v * f count) (split_product n f count) ∙ ⊎_elim here there (cases_eq count n))
  where
    here : count ≡ n → product_but n f count * at_or_one n f count * f count ≡ product_but n f (count + 1) * at_or_one n f (count + 1)
    here is =
        ap (λ v. product_but n f count * v * f count) (one_past n f count (omega (arith, is)))
        ∙ ap (λ v. v * f count) (mul-one (product_but n f count))
        ∙ ap (λ v. v * f count) (sym (but_passed n f count is))
        ∙ ap (λ v. product_but n f (count + 1) * v) (ap f is ∙ sym (one_at n f (count + 1) (omega (arith, is))))

    there : (count ≡ n → ⊥) → product_but n f count * at_or_one n f count * f count ≡ product_but n f (count + 1) * at_or_one n f (count + 1)
    there apart =
        swap_last (product_but n f count) (at_or_one n f count) (f count)
        ∙ ap (λ v. v * at_or_one n f count) (sym (but_more n f count apart))
        ∙ ap (λ v. product_but n f (count + 1) * v) (⊎_elim
        (λ low. one_at n f count low ∙ sym (one_at n f (count + 1) (omega (arith, low))))
        (λ past. one_past n f count past ∙ sym (one_past n f (count + 1) (let other : n ≢ count = λ is. apart (sym is) in omega (arith, past, other))))
        (cases_lt n count))

-- it is the same where the others are
pub but_alike : (n : ℕ) (f g : ℕ → ℕ) (count : ℕ) → ((k : ℕ) → k < count → (k ≡ n → ⊥) → f k ≡ g k) → product_but n f count ≡ product_but n g count
but_alike n f g zero same = refl
but_alike n f g (suc count) same =
    subst (λ m. product_but n f m ≡ product_but n g m) (next count)
    (product_range (but n f) count
    ∙ ap (λ v. v * but n f count) (but_alike n f g count (λ k low. same k (omega (arith, low))))
    ∙ ap (λ v. product_but n g count * v) (⊎_elim
    (λ is. but_here n f count is ∙ sym (but_here n g count is))
    (λ apart. but_there n f count apart ∙ same count (omega arith) apart ∙ sym (but_there n g count apart))
    (cases_eq count n))
    ∙ sym (product_range (but n g) count))

-- the dense elements by their numbers
pub dense_by_number : (s : Setting) (rank : ℕ) (t : Term) (x : List ℤ) → product_of (map (cell_by s rank t x) (range_with_len 0 (length t.dense))) ≡ product_of (map (cell_at s rank x) t.dense)
dense_by_number s rank t x = ap product_of (maps_by_place (cell_by s rank t x) (cell_at s rank x) t.dense no_ref 0 (λ k low. ap (cell_by s rank t x) (zero-add k)))

-- the factors that were taken out, times the two that were not
pub taken_out : (still now leaf factor others at leaves : ℕ) → still % 2 ^ 64 ≡ factor * others * leaves % 2 ^ 64 → now % 2 ^ 64 ≡ still * at % 2 ^ 64 →
    (now * leaf % 2 ^ 64) % 2 ^ 64 ≡ factor * (others * at) * (leaves * leaf) % 2 ^ 64
taken_out still now leaf factor others at leaves out is =
    mod-mod (now * leaf) (2 ^ 64)
    ∙ sym (mul-mod_first now leaf (2 ^ 64))
    ∙ ap (λ n. n * leaf % 2 ^ 64) is
    ∙ mul-mod_first (still * at) leaf (2 ^ 64)
    ∙ ap (λ n. n % 2 ^ 64) (mul_assoc still at leaf)
    ∙ sym (mul-mod_first still (at * leaf) (2 ^ 64))
    ∙ ap (λ n. n * (at * leaf) % 2 ^ 64) out
    ∙ mul-mod_first (factor * others * leaves) (at * leaf) (2 ^ 64)
    ∙ ap (λ n. n % 2 ^ 64)
    (sym (mul_assoc (factor * others * leaves) at leaf)
    ∙ ap (λ n. n * leaf) (swap_last (factor * others) leaves at ∙ ap (λ n. n * leaves) (mul_assoc factor others at))
    ∙ mul_assoc (factor * (others * at)) leaves leaf)

-- ---- what stays

module _ (p : List ℤ) (v : ℕ) (four : length p ≡ 4) (low : v < 4) where
  form_stays : (form : AffineForm) (x y : ℤ) → has_factor form v ≡ false → value_at form (slice_set p v x) ≡ value_at form (slice_set p v y)
  form_stays form x y none =
      let zero_is : number_of form.coef v ≡ pos 0 = (Decides-int_eq (number_of form.coef v) (pos 0)).0 (not-false (int_eq (number_of form.coef v) (pos 0)) none) in
      let first = value_at-set form p v x four low in
      let second = value_at-set form p v y four low in
      let left : number_of form.coef v *ℤ x ≡ pos 0 = ap (λ c. c *ℤ x) zero_is ∙ (let none : pos 0 *ℤ x ≡ pos 0 = omega (arith, ints) in none) in
      let right : number_of form.coef v *ℤ y ≡ pos 0 = ap (λ c. c *ℤ y) zero_is ∙ (let none : pos 0 *ℤ y ≡ pos 0 = omega (arith, ints) in none) in
      omega (arith, ints, first, second, left, right)

  module _ (ref : Ref) (stay : stays v ref ≡ true) (x y : ℤ) where
    row_stays : value_at ref.row (slice_set p v x) ≡ value_at ref.row (slice_set p v y)
    row_stays = form_stays ref.row x y (not-true (has_factor ref.row v) (and_parts (not (has_factor ref.row v)) (not (has_factor ref.col v)) stay).0)

    col_stays : value_at ref.col (slice_set p v x) ≡ value_at ref.col (slice_set p v y)
    col_stays = form_stays ref.col x y (not-true (has_factor ref.col v) (and_parts (not (has_factor ref.row v)) (not (has_factor ref.col v)) stay).1)

    pub own_stays : (job : Checked) (places : Places) (rank : ℕ) → is_own job places rank (slice_set p v x) ref ≡ is_own job places rank (slice_set p v y) ref
    own_stays job places rank =
        ap (λ z. owner_in places (slice_get job.arrays ref.array) (natural z * cols_of (slice_get job.arrays ref.array) + natural (value_at ref.col (slice_set p v x))) == rank) row_stays
        ∙ ap (λ z. owner_in places (slice_get job.arrays ref.array) (natural (value_at ref.row (slice_set p v y)) * cols_of (slice_get job.arrays ref.array) + natural z) == rank) col_stays

    spot_by : (places : Places) (rank : ℕ) (o : Option ArrayDecl) → spot_in places o rank ref (slice_set p v x) ≡ spot_in places o rank ref (slice_set p v y)
    spot_by places rank None = refl
    spot_by places rank (Some array) =
        ap (λ z. local_at (triples_in places array) array rank (natural z) (natural (value_at ref.col (slice_set p v x)))) row_stays
        ∙ ap (λ z. local_at (triples_in places array) array rank (natural (value_at ref.row (slice_set p v y))) (natural z)) col_stays

    pub spot_stays : (job : Checked) (places : Places) (rank : ℕ) → spot job places rank (slice_set p v x) ref ≡ spot job places rank (slice_set p v y) ref
    spot_stays job places rank = spot_by places rank (slice_get job.arrays ref.array)

-- ---- interior points

all_true : {X : Type 0} (p : X → Bool) (xs : List X) → ((k : ℕ) (x : X) → slice_get xs k ≡ Some x → p x ≡ true) → list_all p xs ≡ true
all_true p [] each = refl
all_true p (x ∷ xs) each = ap (λ b. b && list_all p xs) (each 0 x refl) ∙ all_true p xs (λ k y some. each (suc k) y some)

pub owns_all : (s : Setting) (rank : ℕ) (t : Term) (moving : ℕ) (x : List ℤ) → OwnsOthers s rank t moving x → OwnsAt s rank t moving x → is_interior s.job s.places rank t x ≡ true
owns_all s rank t moving x others at = all_true (is_own s.job s.places rank x) t.dense (λ k ref some. ⊎_elim
    (λ is. at ref (subst (λ n. slice_get t.dense n ≡ Some ref) is some))
    (λ apart. others k ref some apart)
    (cases_eq k moving))

pub lacks_one : (s : Setting) (rank : ℕ) (t : Term) (moving : ℕ) (x : List ℤ) → LacksOne s rank t moving x → is_interior s.job s.places rank t x ≡ false
lacks_one s rank t moving x (k, ref, some, apart, not_own) = all_fails (is_own s.job s.places rank x) t.dense k ref some not_own
