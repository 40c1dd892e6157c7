-- What an accepted job at a rank gives of an array and its place.
use Rattle.std.proofs.Common.{◌≡◌, ◌∙◌, ℕ, zero, suc, ◌*◌, ◌+◌, ◌/◌, ◌%◌, ◌<◌, ◌≤◌, ◌==◌, Bool, true, false, List, [], ◌∷◌, length, map, Option, Some, None, IfNone, IfSome, ℤ, pos, ◌<ℤ◌, refl, sym, ap, subst, ⊎_elim, arith}
use Rattle.std.specs.Prelude.{if◌then◌else◌, not, slice_get}
use Rattle.std.specs.List.{All}
use Rattle.std.proofs.Math.Nat.{div-lt_iff_lt-mul, mod-lt, mul-le-mul_right}
use Rattle.bern_base.specs.declared.axes.Axis.{Axis}
use Rattle.bern_base.specs.declared.axes.Axis.TheVariants as axis
use Rattle.std.proofs.lemmas.Bool.{cases_lt, eq-eqb, eqb-true}
use Rattle.std.proofs.lemmas.Int.{ints}
use Rattle.std.proofs.lemmas.List.{length-map}
use Rattle.std.proofs.lemmas.List.Elements.{All-head, All-tail}
use Rattle.bern_base.specs.declared.job.ArrayDecl.{ArrayDecl}
use Rattle.bern_base.specs.declared.job.Checked.{Checked}
use Rattle.bern_base.specs.declared.job.Ref.{Ref}
use Rattle.bern_base.specs.declared.limits.TheConstants.{MOST_SIDE, MOST_WEIGHT}
use Rattle.job_model.specs.Accepted.{IsAccepted, IsArrayOf, IsNestOf, is_col, split_form, split_size}
use Rattle.bern_base.specs.declared.job.Nest.{Nest}
use Rattle.job_model.specs.Points.{natural, spans_of}
use Rattle.bern_base.specs.Affine.{IsInBox, value_at}
use Rattle.job_model.specs.Runnable.{IsElementOf, is_dense}
use Rattle.node_prog.proofs.HomeLemmas.{each_item, item}
use Rattle.pass_model.specs.Interior.{is_own}
use Rattle.pass_model.specs.Local.{IsOwn, local_at, local_element, own_cols, own_rows, own_size, triples_in}
use Rattle.placement.specs.Elements.{owner_of_element}
use Rattle.placement.specs.Placement.{IsPlacement, Triple, local_of, owned_of, owner_of}
use Rattle.plan_courses.proofs.ReferenceLemmas.{col_at, element_is, inside_of, owner_by_form, row_at}
use Rattle.term_model.specs.Answers.{Places, home_of, owner_in}
use Rattle.split_exec.specs.Hits.{IsNamed, OwnsWhole, split_index, spot, spot_in}
use Rattle.split_exec.specs.Settings.{AreSmall, IsAtRank}
use Rattle.std.proofs.lemmas.Nat.{mul-add-lt}
use Rattle.split_exec.proofs.LocalLemmas.{local_low, owned_few, whole_local, whole_owner}
use Rattle.split_exec.proofs.MeaningLemmas.{col_inside, row_inside}

pub all_at : {X : Type 0} (P : X → Type 0) (xs : List X) (n : ℕ) (x : X) → All P xs → slice_get xs n ≡ Some x → P x
all_at P [] n x all some = absurd cc
all_at P (y ∷ xs) zero x all some = let same : y ≡ x = cc in subst P same (All-head P y xs all)
all_at P (y ∷ xs) (suc n) x all some = all_at P xs n x (All-tail P y xs all) some

pub within : {X : Type 0} (xs : List X) (n : ℕ) (x : X) → slice_get xs n ≡ Some x → n < length xs
within [] n x some = absurd cc
within (y ∷ xs) zero x some = omega arith
within (y ∷ xs) (suc n) x some = let rest = within xs n x some in omega (arith, rest)

-- the sides of an array of an accepted job
pub sides : (job : Checked) → IsAccepted job → (number : ℕ) (array : ArrayDecl) → slice_get job.arrays number ≡ Some array → (array.rows ≤ MOST_SIDE) × (array.cols ≤ MOST_SIDE)
sides job accepted number array named = let is = all_at (IsArrayOf job) job.arrays number array accepted.arrays named in (is.rows.1, is.cols.1)

pub weight : (job : Checked) → AreSmall job → (number : ℕ) (array : ArrayDecl) → slice_get job.arrays number ≡ Some array → is_dense job.formats array ≡ true → array.rows * array.cols ≤ MOST_WEIGHT
weight job small number array named whole = all_at (λ (a : ArrayDecl). is_dense job.formats a ≡ true → a.rows * a.cols ≤ MOST_WEIGHT) job.arrays number array small named whole

-- the subscripts of a reference to one are small
pub reach : (job : Checked) → IsAccepted job → (ref : Ref) (x : List ℤ) → IsNamed job ref x → (value_at ref.row x <ℤ pos 4194305) × (value_at ref.col x <ℤ pos 4194305)
reach job accepted ref x is =
    let (rows, cols) = sides job accepted ref.array is.array is.named in
    let row = is.row_high in
    let col = is.col_high in
    (omega (arith, ints, row, rows), omega (arith, ints, col, cols))

-- an array's place, and its size
module _ (job : Checked) (places : Places) (ranks : List ℕ) (rank : ℕ) (at : IsAtRank job places ranks rank) (number : ℕ) (array : ArrayDecl) (named : slice_get job.arrays number ≡ Some array) where
  array_is : IsArrayOf job array
  array_is = all_at (IsArrayOf job) job.arrays number array at.accepted.arrays named

  pub place_low : array.place < length places
  place_low = let (p, there, more) = array_is.place in let low = within job.places array.place p there in omega (arith, low, at.placed.count)

  pub extent_is : length (triples_in places array) ≡ split_size array
  extent_is = let (p, there, (e, here, size)) = array_is.place in at.placed.extents array.place p e there here ∙ size

  pub few : is_dense job.formats array ≡ true → array.rows * array.cols ≤ MOST_WEIGHT
  few whole = weight job at.small number array named whole

-- who owns the element that a reference names
pub own_by : (job : Checked) (places : Places) (rank : ℕ) (ref : Ref) (x : List ℤ) (is : IsNamed job ref x) →
    is_own job places rank x ref ≡ (owner_of (triples_in places is.array) (split_index is.array (natural (value_at ref.row x)) (natural (value_at ref.col x))) == rank)
own_by job places rank ref x is =
    ap (λ n. owner_in places (slice_get job.arrays ref.array) n == rank) (element_is job.arrays ref is.array x is.named)
    ∙ ap (λ o. owner_in places o (natural (value_at ref.row x) * is.array.cols + natural (value_at ref.col x)) == rank) is.named
    ∙ ap (λ n. n == rank) (owner_by_form places is.array ref x (record { row = row_inside job ref x is; col = col_inside job ref x is }) ∙ ap (owner_of (triples_in places is.array)) (by (is_col is.array.axis)))
  where
    by : (b : Bool) → natural (value_at (if b then ref.col else ref.row) x) ≡ (if b then natural (value_at ref.col x) else natural (value_at ref.row x))
    by true = refl
    by false = refl

-- where the rank owns all
module _ {ranks : ℕ} (ts : List Triple) (array : ArrayDecl) (rank row col : ℕ) (is : IsPlacement ranks ts) (low : rank < ranks) (long : length ts ≡ split_size array) (all : owned_of ts rank ≡ length ts)
    (inside : row < array.rows) (beside : col < array.cols) where
  pub all_own : owner_of ts (split_index array row col) ≡ rank
  all_own = by (is_col array.axis) long
    where
      by : (b : Bool) → length ts ≡ (if b then array.cols else array.rows) → owner_of ts (if b then col else row) ≡ rank
      by true long = whole_owner ts rank col all (omega (arith, long, beside))
      by false long = whole_owner ts rank row all (omega (arith, long, inside))

  pub all_local : row * array.cols + col ≡ local_at ts array rank row col
  all_local = by (is_col array.axis) long
    where
      by : (b : Bool) → length ts ≡ (if b then array.cols else array.rows) →
          row * array.cols + col ≡ (if b then row else local_of ts row) * (if b then owned_of ts rank else array.cols) + (if b then local_of ts col else col)
      by true long = ap (λ n. row * n + col) (sym (all ∙ long)) ∙ ap (λ n. row * owned_of ts rank + n) (sym (whole_local ts rank col is low all (omega (arith, long, beside))))
      by false long = ap (λ n. n * array.cols + col) (sym (whole_local ts rank row is low all (omega (arith, long, inside))))

-- the number of an own element in its part
part_low : {ranks : ℕ} (ts : List Triple) (array : ArrayDecl) (rank row col : ℕ) → IsPlacement ranks ts → length ts ≡ split_size array → row < array.rows → col < array.cols →
    owner_of ts (split_index array row col) ≡ rank → local_at ts array rank row col < own_rows ts array rank * own_cols ts array rank
part_low ts array rank row col is long inside beside own = by (is_col array.axis) long own
  where
    by : (b : Bool) → length ts ≡ (if b then array.cols else array.rows) → owner_of ts (if b then col else row) ≡ rank →
        (if b then row else local_of ts row) * (if b then owned_of ts rank else array.cols) + (if b then local_of ts col else col)
        < (if b then array.rows else owned_of ts rank) * (if b then owned_of ts rank else array.cols)
    by true long own =
        let local = local_low ts rank col is (omega (arith, long, beside)) own in
        let low = mul-add-lt row (owned_of ts rank) (local_of ts col) array.rows inside local in omega (arith, low)
    by false long own =
        let local = local_low ts rank row is (omega (arith, long, inside)) own in
        let low = mul-add-lt (local_of ts row) array.cols col (owned_of ts rank) local beside in omega (arith, low)

index_same : (a : Axis) (ts : List Triple) (cols n rank : ℕ) → owner_of_element a ts cols n ≡ rank → owner_of ts (if is_col a then n % cols else n / cols) ≡ rank
index_same axis.Row ts cols n rank own = own
index_same axis.Col ts cols n rank own = own
index_same axis.Both ts cols n rank own = own

-- the number of an own element, by its number in the array
pub own_low : {ranks : ℕ} (places : Places) (array : ArrayDecl) (rank n : ℕ) → IsPlacement ranks (triples_in places array) → length (triples_in places array) ≡ split_size array → IsOwn places array rank n →
    local_element places array rank n < own_size places array rank
own_low places array rank n is long own =
    ⊎_elim
    (λ (some : 0 < array.cols).
    part_low (triples_in places array) array rank (n / array.cols) (n % array.cols) is long ((div-lt_iff_lt-mul some).1 own.inside) (mod-lt n some)
    (index_same array.axis (triples_in places array) array.cols n rank own.owner))
    (λ (none : array.cols ≤ 0). absurd (let zero : array.cols ≡ 0 = omega (arith, none) in let inside : n < array.rows * 0 = subst (λ k. n < array.rows * k) zero own.inside in omega (arith, inside)))
    (cases_lt 0 array.cols)

-- a part is no greater than its array
pub own_size_low : (places : Places) (array : ArrayDecl) (rank : ℕ) → length (triples_in places array) ≡ split_size array → own_size places array rank ≤ array.rows * array.cols
own_size_low places array rank long = by (is_col array.axis) long
  where
    by : (b : Bool) → length (triples_in places array) ≡ (if b then array.cols else array.rows) →
        (if b then array.rows else owned_of (triples_in places array) rank) * (if b then owned_of (triples_in places array) rank else array.cols) ≤ array.rows * array.cols
    by true long =
        let few : owned_of (triples_in places array) rank ≤ array.cols = omega (arith, owned_few (triples_in places array) rank, long) in
        let low = mul-le-mul_right array.rows few in omega (arith, low)
    by false long =
        let few : owned_of (triples_in places array) rank ≤ array.rows = omega (arith, owned_few (triples_in places array) rank, long) in mul-le-mul_right array.cols few

-- ---- as code asks for them

pub same_array : (arrays : List ArrayDecl) (number : ℕ) (a b : ArrayDecl) → slice_get arrays number ≡ Some a → slice_get arrays number ≡ Some b → a ≡ b
same_array arrays number a b first second = let both : Some a ≡ Some b = sym first ∙ second in cc

pub high : (job : Checked) (places : Places) (ranks : List ℕ) (rank : ℕ) → IsAtRank job places ranks rank → (ref : Ref) (x : List ℤ) → IsNamed job ref x →
    (value_at ref.row x <ℤ pos 4194305) × (value_at ref.col x <ℤ pos 4194305)
high job places ranks rank at ref x is = reach job at.accepted ref x is

pub if_some : {X : Type 0} (o : Option X) (P Q : X → Type 0) → ((x : X) → P x → Q x) → IfSome o P → IfSome o Q
if_some None P Q f is = is
if_some (Some x) P Q f is = f x is

pub if_none : {X : Type 0} (o : Option X) (P Q : Type 0) → (P → Q) → IfNone o P → IfNone o Q
if_none None P Q f is = f is
if_none (Some x) P Q f is = is

module _ {P : Type 0} (job : Checked) (triples : P → List Triple) (places : List P) (rank : ℕ) (ref : Ref) (x : List ℤ) where
  pub own_test : IsNamed job ref x → (array : ArrayDecl) (place : P) (row col : ℕ) → slice_get job.arrays ref.array ≡ Some array → slice_get places array.place ≡ Some place →
      row ≡ natural (value_at ref.row x) → col ≡ natural (value_at ref.col x) →
      is_own job (map triples places) rank x ref ≡ (owner_of (triples place) (split_index array row col) == rank)
  own_test is array place row col named there row_is col_is =
      let same = same_array job.arrays ref.array is.array array is.named named in
      own_by job (map triples places) rank ref x is
      ∙ ap (λ (a : ArrayDecl). owner_of (triples_in (map triples places) a) (split_index a (natural (value_at ref.row x)) (natural (value_at ref.col x))) == rank) same
      ∙ ap (λ ts. owner_of ts (split_index array (natural (value_at ref.row x)) (natural (value_at ref.col x))) == rank) (item triples places array.place place [] there)
      ∙ ap (λ r. owner_of (triples place) (split_index array r (natural (value_at ref.col x))) == rank) (sym row_is)
      ∙ ap (λ c. owner_of (triples place) (split_index array row c) == rank) (sym col_is)

  pub spot_test : (array : ArrayDecl) (place : P) (row col : ℕ) → slice_get job.arrays ref.array ≡ Some array → slice_get places array.place ≡ Some place →
      row ≡ natural (value_at ref.row x) → col ≡ natural (value_at ref.col x) → spot job (map triples places) rank x ref ≡ local_at (triples place) array rank row col
  spot_test array place row col named there row_is col_is =
      ap (λ o. spot_in (map triples places) o rank ref x) named
      ∙ ap (λ ts. local_at ts array rank (natural (value_at ref.row x)) (natural (value_at ref.col x))) (item triples places array.place place [] there)
      ∙ ap (λ r. local_at (triples place) array rank r (natural (value_at ref.col x))) (sym row_is)
      ∙ ap (λ c. local_at (triples place) array rank row c) (sym col_is)

-- the item of a number below the length
there_is : {X : Type 0} (xs : List X) (n : ℕ) → n < length xs → (x : X) × (slice_get xs n ≡ Some x)
there_is [] n low = absurd (omega (arith, low))
there_is (x ∷ xs) zero low = (x, refl)
there_is (x ∷ xs) (suc n) low = there_is xs n (omega (arith, low))

module _ {P : Type 0} (job : Checked) (triples : P → List Triple) (ranks : P → ℕ) (placed : (p : P) → IsPlacement (ranks p) (triples p)) (places : List P) (rank : ℕ)
    (at_rank : IsAtRank job (map triples places) (map ranks places) rank) where
  -- the place of an array is a placement
  pub dealt : (number : ℕ) (array : ArrayDecl) → slice_get job.arrays number ≡ Some array → (n : ℕ) × IsPlacement n (triples_in (map triples places) array) × (rank < n)
  dealt number array named =
      let low = place_low job (map triples places) (map ranks places) rank at_rank number array named in
      let (p, there) = there_is places array.place (omega (arith, low, length-map places triples)) in
      (ranks p, subst (IsPlacement (ranks p)) (sym (item triples places array.place p [] there)) (placed p), each_item ranks (λ n. rank < n) places array.place p at_rank.placed.among there)

  -- the number of an own element is below the size of the part
  pub spot_low : (ref : Ref) (x : List ℤ) (is : IsNamed job ref x) → is_own job (map triples places) rank x ref ≡ true → spot job (map triples places) rank x ref < own_size (map triples places) is.array rank
  spot_low ref x is own =
      let (n, place, low) = dealt ref.array is.array is.named in
      let ts = triples_in (map triples places) is.array in
      let at : owner_of ts (split_index is.array (natural (value_at ref.row x)) (natural (value_at ref.col x))) ≡ rank =
      eqb-true (owner_of ts (split_index is.array (natural (value_at ref.row x)) (natural (value_at ref.col x)))) rank (sym (own_by job (map triples places) rank ref x is) ∙ own) in
      subst (λ k. k < own_size (map triples places) is.array rank) (sym (ap (λ o. spot_in (map triples places) o rank ref x) is.named))
      (part_low ts is.array rank (natural (value_at ref.row x)) (natural (value_at ref.col x)) place (extent_is job (map triples places) (map ranks places) rank at_rank ref.array is.array is.named)
      (row_inside job ref x is) (col_inside job ref x is) at)

  module _ (ref : Ref) (x : List ℤ) (is : IsNamed job ref x) (whole : OwnsWhole job (map triples places) rank ref) where
    pub whole_own : is_own job (map triples places) rank x ref ≡ true
    whole_own =
        let (n, place, low) = dealt ref.array is.array is.named in
        let ts = triples_in (map triples places) is.array in
        own_by job (map triples places) rank ref x is
        ∙ eq-eqb (owner_of ts (split_index is.array (natural (value_at ref.row x)) (natural (value_at ref.col x)))) rank
        (all_own ts is.array rank (natural (value_at ref.row x)) (natural (value_at ref.col x)) place low (extent_is job (map triples places) (map ranks places) rank at_rank ref.array is.array is.named) (whole is.array is.named)
        (row_inside job ref x is) (col_inside job ref x is))

    pub whole_spot : natural (value_at ref.row x) * is.array.cols + natural (value_at ref.col x) ≡ spot job (map triples places) rank x ref
    whole_spot =
        let (n, place, low) = dealt ref.array is.array is.named in
        let ts = triples_in (map triples places) is.array in
        all_local ts is.array rank (natural (value_at ref.row x)) (natural (value_at ref.col x)) place low (extent_is job (map triples places) (map ranks places) rank at_rank ref.array is.array is.named) (whole is.array is.named)
        (row_inside job ref x is) (col_inside job ref x is)
        ∙ sym (ap (λ o. spot_in (map triples places) o rank ref x) is.named)

-- ---- homes

-- a point whose home was asked for
pub away : {P : Type 0} (job : Checked) (triples : P → List Triple) (places : List P) (nest : Nest) (rank : ℕ) (array : ArrayDecl) (place : P) {owner : ℕ} → IsNestOf job nest →
    slice_get job.arrays nest.target.array ≡ Some array → slice_get places array.place ≡ Some place → (x : List ℤ) → IsInBox (spans_of nest.vars) x →
    owner ≡ owner_of (triples place) (natural (value_at (split_form array nest.target) x)) → not (owner == rank) ≡ true → (home_of job (map triples places) nest x == rank) ≡ false
away job triples places nest rank array place {owner} is named there x box asked other =
    let target = is.target in
    let same = same_array job.arrays nest.target.array target.array array target.element.named named in
    let home : home_of job (map triples places) nest x ≡ owner =
    ap (λ n. owner_in (map triples places) (slice_get job.arrays nest.target.array) n) (element_is job.arrays nest.target array x named)
    ∙ ap (λ o. owner_in (map triples places) o (row_at nest.target x * array.cols + col_at nest.target x)) named
    ∙ owner_by_form (map triples places) array nest.target x (inside_of job.arrays (spans_of nest.vars) nest.target array x (subst (IsElementOf job.arrays (spans_of nest.vars) nest.target) same target.element) box)
    ∙ ap (λ ts. owner_of ts (natural (value_at (split_form array nest.target) x))) (item triples places array.place place [] there)
    ∙ sym asked in
    ap (λ n. n == rank) home ∙ by (owner == rank) other
  where
    by : (b : Bool) → not b ≡ true → b ≡ false
    by true other = absurd cc
    by false other = refl
