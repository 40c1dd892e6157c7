-- Products of whole numbers, and the values of forms.
use Rattle.std.proofs.Common.{◌≡◌, ℕ, zero, suc, ◌+◌, ◌-◌, ◌*◌, ◌^◌, ◌<◌, ◌≤◌, List, [], ◌∷◌, length, refl, ap, ◌∙◌, subst, w64, of_z, to_z, arith}
use Rattle.std.specs.Prelude.{ℤ, pos, negsuc, ◌+ℤ◌, ◌-ℤ◌, ◌*ℤ◌, ◌≤ℤ◌, slice_set, unsigned_abs, Option, Some, None, IfSome}
use Rattle.std.proofs.Math.Nat.{mul-zero, mul-suc, mul-le-mul}
use Rattle.std.proofs.lemmas.Int.{ints, to_z-of_z, unsigned_abs-mul, fits_signed_from_abs}
use lib.IntN.{*ℤ_comm}
use borrow.Author.Differences.{up, down}
use Rattle.bern_base.specs.Affine.{IsWithin, AffineForm, IsPoint, IsInSpan, IsLeastIn, IsGreatestIn, IsInBox, number_of, span_of, term, value_at}

-- the arithmetic of a product of two differences
larger : (a b x y z w k m : ℕ) → y + z ≡ x + w + k → a ≡ b + m → a * x + b * z + (a * w + b * y) ≤ a * y + b * w + (a * z + b * x)
larger a b x y z w k m rises positive =
    let first = ap (λ t. t * a) rises in
    let second = ap (λ t. t * b) rises in
    let third = ap (λ t. t * k) positive in
    omega arith

-- a product with a factor that is not below 0 rises with the other
pub times_rises : (c x y : ℤ) → pos 0 ≤ℤ c → x ≤ℤ y → (c *ℤ x) ≤ℤ (c *ℤ y)
times_rises c x y positive rises =
    let k = up y + down x - (up x + down y) in
    let m = up c - down c in
    let wide : up y + down x ≡ up x + down y + k = omega (arith, ints) in
    let large : up c ≡ down c + m = omega (arith, ints) in
    let all = larger (up c) (down c) (up x) (up y) (down x) (down y) k m wide large in
    omega (arith, ints)

-- with one that is at most 0 it falls
pub times_falls : (c x y : ℤ) → c ≤ℤ pos 0 → x ≤ℤ y → (c *ℤ y) ≤ℤ (c *ℤ x)
times_falls c x y negative rises =
    let k = up y + down x - (up x + down y) in
    let m = down c - up c in
    let wide : up y + down x ≡ up x + down y + k = omega (arith, ints) in
    let large : down c ≡ up c + m = omega (arith, ints) in
    let all = larger (down c) (up c) (up x) (up y) (down x) (down y) k m wide large in
    omega (arith, ints)

-- a product with a difference
times-minus : (d x q : ℤ) → d *ℤ (x -ℤ q) ≡ d *ℤ x -ℤ d *ℤ q
times-minus d x q =
    let apart : up (x -ℤ q) + down x + up q ≡ down (x -ℤ q) + up x + down q = omega (arith, ints) in
    let first = ap (λ t. t * up d) apart in
    let second = ap (λ t. t * down d) apart in
    omega (arith, ints)

-- a multiple that is smaller than its factor is 0
no_multiple : (a b c : ℕ) → a ≡ b * c → a < b → a ≡ 0
no_multiple a b zero is below = is ∙ mul-zero b
no_multiple a b (suc c) is below = absurd (omega (arith, is ∙ mul-suc b c, below))

zero_abs : (r : ℤ) → unsigned_abs r ≡ 0 → r ≡ pos 0
zero_abs r none = omega (arith, ints)

-- what is left of a multiple is nothing
pub no_rest : (d q r x : ℤ) → q *ℤ d +ℤ r ≡ d *ℤ x → unsigned_abs r < unsigned_abs d → r ≡ pos 0
no_rest d q r x is below =
    let by : r ≡ d *ℤ (x -ℤ q) = omega (arith, ints, is, times-minus d x q, *ℤ_comm q d) in
    zero_abs r (no_multiple (unsigned_abs r) (unsigned_abs d) (unsigned_abs (x -ℤ q)) (ap unsigned_abs by ∙ unsigned_abs-mul d (x -ℤ q)) below)

-- a term of a sum of five changes places with one beside the sum
first_changed : (c p q r s t : ℤ) → c +ℤ t +ℤ q +ℤ r +ℤ s +ℤ p ≡ c +ℤ p +ℤ q +ℤ r +ℤ s +ℤ t
first_changed c p q r s t = omega (arith, ints)

second_changed : (c p q r s t : ℤ) → c +ℤ p +ℤ t +ℤ r +ℤ s +ℤ q ≡ c +ℤ p +ℤ q +ℤ r +ℤ s +ℤ t
second_changed c p q r s t = omega (arith, ints)

third_changed : (c p q r s t : ℤ) → c +ℤ p +ℤ q +ℤ t +ℤ s +ℤ r ≡ c +ℤ p +ℤ q +ℤ r +ℤ s +ℤ t
third_changed c p q r s t = omega (arith, ints)

fourth_changed : (c p q r s t : ℤ) → c +ℤ p +ℤ q +ℤ r +ℤ t +ℤ s ≡ c +ℤ p +ℤ q +ℤ r +ℤ s +ℤ t
fourth_changed c p q r s t = omega (arith, ints)

-- the value at a point with another value of one variable
pub value_at-set : (form : AffineForm) (values : List ℤ) (v : ℕ) (x : ℤ) → length values ≡ 4 → v < 4 →
    value_at form (slice_set values v x) +ℤ term form values v ≡ value_at form values +ℤ number_of form.coef v *ℤ x
value_at-set form (a ∷ b ∷ c ∷ d ∷ more) v x four below = place v below
  where
    place : (v : ℕ) → v < 4 → value_at form (slice_set (a ∷ b ∷ c ∷ d ∷ more) v x) +ℤ term form (a ∷ b ∷ c ∷ d ∷ more) v ≡ value_at form (a ∷ b ∷ c ∷ d ∷ more) +ℤ number_of form.coef v *ℤ x
    place zero below = first_changed form.c0 (number_of form.coef 0 *ℤ a) (number_of form.coef 1 *ℤ b) (number_of form.coef 2 *ℤ c) (number_of form.coef 3 *ℤ d) (number_of form.coef 0 *ℤ x)
    place (suc zero) below = second_changed form.c0 (number_of form.coef 0 *ℤ a) (number_of form.coef 1 *ℤ b) (number_of form.coef 2 *ℤ c) (number_of form.coef 3 *ℤ d) (number_of form.coef 1 *ℤ x)
    place (suc (suc zero)) below = third_changed form.c0 (number_of form.coef 0 *ℤ a) (number_of form.coef 1 *ℤ b) (number_of form.coef 2 *ℤ c) (number_of form.coef 3 *ℤ d) (number_of form.coef 2 *ℤ x)
    place (suc (suc (suc zero))) below = fourth_changed form.c0 (number_of form.coef 0 *ℤ a) (number_of form.coef 1 *ℤ b) (number_of form.coef 2 *ℤ c) (number_of form.coef 3 *ℤ d) (number_of form.coef 3 *ℤ x)
    place (suc (suc (suc (suc v)))) below = absurd (omega (arith, below))
value_at-set form [] v x four below = absurd (omega (arith, four))
value_at-set form (a ∷ []) v x four below = absurd (omega (arith, four))
value_at-set form (a ∷ b ∷ []) v x four below = absurd (omega (arith, four))
value_at-set form (a ∷ b ∷ c ∷ []) v x four below = absurd (omega (arith, four))

-- a number that is not 0 has a size
pub some_abs : (d : ℤ) → (d ≡ pos 0 → ⊥) → 0 < unsigned_abs d
some_abs (pos zero) some = absurd (some refl)
some_abs (pos (suc n)) some = omega arith
some_abs (negsuc n) some = omega arith

-- bounds by the size of a number
pub within_abs : (z : ℤ) (k : ℕ) → unsigned_abs z ≤ k + 1 → IsWithin k z
within_abs z k small = (omega (arith, ints), omega (arith, ints))

pub abs_within : (z : ℤ) (k : ℕ) → IsWithin k z → unsigned_abs z ≤ k + 1
abs_within z k (low, high) = omega (arith, ints)

-- a number as a word of 64 bits holds it
abbrev pub word : ℤ → ℤ
word z = to_z w64 (of_z w64 z)

-- one that is far from the ends of a word is kept by it
pub word_kept : (n : ℕ) (z : ℤ) → n + 1 < 2 ^ 63 → IsWithin n z → word z ≡ z
word_kept n z small within = to_z-of_z w64 z (fits_signed_from_abs w64 z (omega (arith, small, abs_within z n within)))

-- a factor times the value of a variable
pub product_within : (a b : ℤ) → IsWithin 2097151 a → IsWithin 4194303 b → IsWithin 8796093022207 (a *ℤ b)
product_within a b first second =
    let size : unsigned_abs a * unsigned_abs b ≤ 2097152 * 4194304 = mul-le-mul (abs_within a 2097151 first) (abs_within b 4194303 second) in
    within_abs (a *ℤ b) 8796093022207 (omega (arith, size, unsigned_abs-mul a b))

pub word_product : (a b : ℤ) → IsWithin 2097151 a → IsWithin 4194303 b → word a *ℤ word b ≡ a *ℤ b
word_product a b first second = rw (word_kept 2097151 a (omega arith) first, word_kept 4194303 b (omega arith) second) refl

-- a sum rises with its terms
pub sum_rises : (c p q r s t u v w : ℤ) → p ≤ℤ t → q ≤ℤ u → r ≤ℤ v → s ≤ℤ w → (c +ℤ p +ℤ q +ℤ r +ℤ s) ≤ℤ (c +ℤ t +ℤ u +ℤ v +ℤ w)
sum_rises c p q r s t u v w first second third fourth = omega (arith, ints, first, second, third, fourth)

-- a point of a box by its values
pub in_box : (spans : List (ℤ × ℤ)) {a b c d : ℤ} → IsInSpan (span_of spans 0) a → IsInSpan (span_of spans 1) b → IsInSpan (span_of spans 2) c → IsInSpan (span_of spans 3) d →
    IsInBox spans (a ∷ b ∷ c ∷ d ∷ [])
in_box spans {a} {b} {c} {d} first second third fourth = record { four = refl; each = each }
  where
    each : (v : ℕ) → v < 4 → IsInSpan (span_of spans v) (number_of (a ∷ b ∷ c ∷ d ∷ []) v)
    each zero below = first
    each (suc zero) below = second
    each (suc (suc zero)) below = third
    each (suc (suc (suc zero))) below = fourth
    each (suc (suc (suc (suc v)))) below = absurd (omega (arith, below))

-- each product is least over its span, so the value is least over the box
pub least_value : (form : AffineForm) (spans : List (ℤ × ℤ)) (a b c d : ℤ) →
    IsLeastIn (span_of spans 0) (number_of form.coef 0) a → IsLeastIn (span_of spans 1) (number_of form.coef 1) b →
    IsLeastIn (span_of spans 2) (number_of form.coef 2) c → IsLeastIn (span_of spans 3) (number_of form.coef 3) d →
    (values : List ℤ) → IsInBox spans values → value_at form (a ∷ b ∷ c ∷ d ∷ []) ≤ℤ value_at form values
least_value form spans a b c d first second third fourth values box =
    sum_rises form.c0 _ _ _ _ _ _ _ _
    (first (number_of values 0) (box.each 0 (omega arith))) (second (number_of values 1) (box.each 1 (omega arith)))
    (third (number_of values 2) (box.each 2 (omega arith))) (fourth (number_of values 3) (box.each 3 (omega arith)))

-- and greatest where each product is
pub greatest_value : (form : AffineForm) (spans : List (ℤ × ℤ)) (a b c d : ℤ) →
    IsGreatestIn (span_of spans 0) (number_of form.coef 0) a → IsGreatestIn (span_of spans 1) (number_of form.coef 1) b →
    IsGreatestIn (span_of spans 2) (number_of form.coef 2) c → IsGreatestIn (span_of spans 3) (number_of form.coef 3) d →
    (values : List ℤ) → IsInBox spans values → value_at form values ≤ℤ value_at form (a ∷ b ∷ c ∷ d ∷ [])
greatest_value form spans a b c d first second third fourth values box =
    sum_rises form.c0 _ _ _ _ _ _ _ _
    (first (number_of values 0) (box.each 0 (omega arith))) (second (number_of values 1) (box.each 1 (omega arith)))
    (third (number_of values 2) (box.each 2 (omega arith))) (fourth (number_of values 3) (box.each 3 (omega arith)))

-- four words that hold values of loop variables
pub four_kept : {a b c d : ℤ} → IsWithin 4194303 a → IsWithin 4194303 b → IsWithin 4194303 c → IsWithin 4194303 d →
    word a ∷ word b ∷ word c ∷ word d ∷ [] ≡ a ∷ b ∷ c ∷ d ∷ []
four_kept {a} {b} {c} {d} first second third fourth =
    rw (word_kept 4194303 a (omega arith) first, word_kept 4194303 b (omega arith) second, word_kept 4194303 c (omega arith) third, word_kept 4194303 d (omega arith) fourth) refl

pub four_within : {a b c d : ℤ} → IsWithin 4194303 a → IsWithin 4194303 b → IsWithin 4194303 c → IsWithin 4194303 d → IsPoint (a ∷ b ∷ c ∷ d ∷ [])
four_within first second third fourth zero e below = first
four_within first second third fourth (suc zero) e below = second
four_within first second third fourth (suc (suc zero)) e below = third
four_within first second third fourth (suc (suc (suc zero))) e below = fourth
four_within first second third fourth (suc (suc (suc (suc k)))) e below = absurd (omega (arith, below))

-- a value with a term changed is the index exactly where the new term is what the index asks for
due_value : (new old t m index : ℤ) → new +ℤ t ≡ old +ℤ m → m ≡ index -ℤ (old -ℤ t) → new ≡ index
due_value new old t m index is due = omega (arith, ints, is, due)

value_due : (new old t m index : ℤ) → new +ℤ t ≡ old +ℤ m → new ≡ index → m ≡ index -ℤ (old -ℤ t)
value_due new old t m index is due = omega (arith, ints, is, due)

pub solved : (form : AffineForm) (values : List ℤ) (v : ℕ) (x index : ℤ) → length values ≡ 4 → v < 4 →
    number_of form.coef v *ℤ x ≡ index -ℤ (value_at form values -ℤ term form values v) → value_at form (slice_set values v x) ≡ index
solved form values v x index four below due =
    due_value (value_at form (slice_set values v x)) (value_at form values) (term form values v) (number_of form.coef v *ℤ x) index (value_at-set form values v x four below) due

pub solves : (form : AffineForm) (values : List ℤ) (v : ℕ) (x index : ℤ) → length values ≡ 4 → v < 4 →
    value_at form (slice_set values v x) ≡ index → number_of form.coef v *ℤ x ≡ index -ℤ (value_at form values -ℤ term form values v)
solves form values v x index four below is =
    value_due (value_at form (slice_set values v x)) (value_at form values) (term form values v) (number_of form.coef v *ℤ x) index (value_at-set form values v x four below) is

-- what follows of an answer
pub some_then : (o : Option ℤ) (P Q : ℤ → Type 0) → ((x : ℤ) → P x → Q x) → IfSome o P → IfSome o Q
some_then None P Q so is = tt
some_then (Some x) P Q so is = so x is

-- the same of a factor that a word holds
pub least_by : (span : ℤ × ℤ) (value : ℤ) {f g : ℤ} → IsWithin 2097151 f → f ≡ g → IsLeastIn span (word f) value → IsLeastIn span g value
least_by span value {f} within same is = subst (λ x. IsLeastIn span x value) (word_kept 2097151 f (omega arith) within ∙ same) is

pub greatest_by : (span : ℤ × ℤ) (value : ℤ) {f g : ℤ} → IsWithin 2097151 f → f ≡ g → IsGreatestIn span (word f) value → IsGreatestIn span g value
greatest_by span value {f} within same is = subst (λ x. IsGreatestIn span x value) (word_kept 2097151 f (omega arith) within ∙ same) is
