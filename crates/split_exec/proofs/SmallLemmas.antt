-- The box of a nest that replaces is small.
use Rattle.std.proofs.Common.{◌≡◌, ◌∙◌, ℕ, suc, ◌+◌, ◌*◌, ◌<◌, ◌≤◌, ◌==◌, Bool, true, false, cond, List, [], ◌∷◌, ℤ, pos, length, get_or, None, Some, inl, inr, ◌⊎◌, refl, sym, ap, subst, arith}
use Rattle.std.specs.Prelude.{slice_get}
use Rattle.std.specs.List.{All, Contains, count_by, range_with_len, sum_by}
use Rattle.std.proofs.lemmas.Bool.{cond-false, cond-true, eq-eqb, eqb-true, ne_eqb}
use Rattle.std.proofs.lemmas.List.Elements.{All-cons, All-contains, All-head, All-tail}
use Rattle.std.proofs.lemmas.List.FromFn.{length-range_with_len}
use Rattle.std.proofs.lemmas.List.Sums.{sum_by-cons, sum_by-le}
use Rattle.std.proofs.lemmas.Nat.{same_from_place}
use Rattle.bern_base.proofs.SumLemmas.{sum_by-swap, sum_by_agree, sum_by_one}
use Rattle.bern_base.specs.Affine.{IsInBox, IsInSpan, number_of, value_at}
use Rattle.bern_base.specs.declared.job.ArrayDecl.{ArrayDecl}
use Rattle.bern_base.specs.declared.job.Checked.{Checked}
use Rattle.bern_base.specs.declared.job.Nest.{Nest}
use Rattle.job_model.specs.Accepted.{IsNestOf}
use Rattle.job_model.specs.Elements.{element_of}
use Rattle.job_model.specs.Points.{bounds_at, box_of, natural, spans_of}
use Rattle.plan_courses.proofs.BoxLemmas.{box_long, box_once, span_at}
use Rattle.plan_courses.proofs.ReferenceLemmas.{natural_is}
use Rattle.visits.specs.Ways.{no_tree}
use Rattle.walks.specs.Conditions.{same}
use Rattle.walks.specs.Courses.{Course, in_loop}
use Rattle.walks.specs.Exactly.{every}
use Rattle.walks.proofs.Points.{same-refl}
use Rattle.walks.proofs.Spans.{in_loop-between}
use Rattle.split_exec.specs.Applying.{BoxesOfReplacingNestsAreSmall}
use Rattle.split_exec.proofs.MeaningLemmas.{col_inside, element_inside, element_named}
use Rattle.split_exec.proofs.SoundLemmas.{target_named}

-- ---- counts

count_le : {X : Type 0} (p q : X → Bool) (xs : List X) → All (λ x. p x ≡ true → q x ≡ true) xs → count_by p xs ≤ count_by q xs
count_le p q [] each = omega arith
count_le {X} p q (x ∷ xs) each =
    let rest = count_le p q xs (All-tail (λ x. p x ≡ true → q x ≡ true) x xs each) in
    let first = sum_by-cons (λ (x : X). cond (p x) 1 0) x xs in
    let second = sum_by-cons (λ (x : X). cond (q x) 1 0) x xs in
    omega (arith, rest, first, second, by (p x) (q x) (All-head (λ x. p x ≡ true → q x ≡ true) x xs each))
  where
    by : (a b : Bool) → (a ≡ true → b ≡ true) → cond {A = ℕ} a 1 0 ≤ cond {A = ℕ} b 1 0
    by false b implies = omega arith
    by true b implies = rw (implies refl) (omega arith)

count_zero : {X : Type 0} (p : X → Bool) (xs : List X) → All (λ x. p x ≡ false) xs → count_by p xs ≡ 0
count_zero p [] none = refl
count_zero {X} p (x ∷ xs) none =
    let first = sum_by-cons (λ (x : X). cond (p x) 1 0) x xs in
    let rest = count_zero p xs (All-tail (λ x. p x ≡ false) x xs none) in
    let zero : cond {A = ℕ} (p x) 1 0 ≡ 0 = cond-false {A = ℕ} (p x) 1 0 (All-head (λ x. p x ≡ false) x xs none) in
    omega (arith, first, rest, zero)

-- one passes or none does
some_or_none : {X : Type 0} (p : X → Bool) (xs : List X) → ((x : X) × Contains xs x × (p x ≡ true)) ⊎ All (λ x. p x ≡ false) xs
some_or_none p [] = inr (λ k d below. absurd (omega (arith, below)))
some_or_none {X} p (x ∷ xs) = by (p x) refl (some_or_none p xs)
  where
    by : (b : Bool) → p x ≡ b → ((x : X) × Contains xs x × (p x ≡ true)) ⊎ All (λ x. p x ≡ false) xs → ((y : X) × Contains (x ∷ xs) y × (p y ≡ true)) ⊎ All (λ y. p y ≡ false) (x ∷ xs)
    by true is rest = inl (x, (0, omega arith, refl), is)
    by false is (inl (y, (k, below, here), passes)) = inl (y, (suc k, omega (arith, below), here), passes)
    by false is (inr none) = inr (All-cons (λ y. p y ≡ false) x xs is none)

-- ---- a box

abbrev loops : Nest → Course
loops nest = record {
  references = 0;
  strides = [];
  low = λ v. (bounds_at nest.vars v).0;
  high = λ v. (bounds_at nest.vars v).1;
  test = λ d x. true;
  searches = λ d. [];
  index = λ r level x. pos 0;
  solve = λ r level v x n. None;
  part = λ r v x n. None;
  shift = λ left left_level right right_level v x. pos 0;
  tree = λ r. no_tree;
}

module _ (job : Checked) (nest : Nest) (array : ArrayDecl) (is : IsNestOf job nest) (replaces : nest.replace ≡ true) (named : slice_get job.arrays nest.target.array ≡ Some array) where
  element : List ℤ → ℕ
  element x = element_of job.arrays nest.target x

  inside : (x : List ℤ) → IsInBox (spans_of nest.vars) x → element x < array.rows * array.cols
  unfolding element
  inside x box =
      let at = target_named job nest x is box in
      let one : at.array ≡ array = (let both : Some at.array ≡ Some array = sym at.named ∙ named in cc) in
      subst (λ (a : ArrayDecl). element_of job.arrays nest.target x < a.rows * a.cols) one (element_inside job nest.target x at)

  -- points with one element are one point
  one_point : (x y : List ℤ) → IsInBox (spans_of nest.vars) x → IsInBox (spans_of nest.vars) y → element x ≡ element y → x ≡ y
  unfolding element
  one_point x y box too same_element =
      let at = target_named job nest x is box in
      let there = target_named job nest y is too in
      let one : there.array ≡ at.array = (let both : Some there.array ≡ Some at.array = sym there.named ∙ at.named in cc) in
      let cols : there.array.cols ≡ at.array.cols = ap (λ (a : ArrayDecl). a.cols) one in
      let parts = same_from_place (natural (value_at nest.target.row x)) (natural (value_at nest.target.col x)) (natural (value_at nest.target.row y)) (natural (value_at nest.target.col y)) at.array.cols
      (col_inside job nest.target x at) (subst (λ n. natural (value_at nest.target.col y) < n) cols (col_inside job nest.target y there))
      (sym (element_named job nest.target x at) ∙ same_element ∙ element_named job nest.target y there ∙ ap (λ n. natural (value_at nest.target.row y) * n + natural (value_at nest.target.col y)) cols) in
      is.replaces replaces x y box too
      (natural_is (value_at nest.target.row x) at.row_low ∙ ap pos parts.0 ∙ sym (natural_is (value_at nest.target.row y) there.row_low))
      (natural_is (value_at nest.target.col x) at.col_low ∙ ap pos parts.1 ∙ sym (natural_is (value_at nest.target.col y) there.col_low))

  once : (j : ℕ) → count_by (λ x. element x == j) (box_of nest) ≤ 1
  once j = by (some_or_none (λ x. element x == j) (box_of nest))
    where
      by : ((x : List ℤ) × Contains (box_of nest) x × ((element x == j) ≡ true)) ⊎ All (λ x. (element x == j) ≡ false) (box_of nest) → count_by (λ x. element x == j) (box_of nest) ≤ 1
      by (inr none) = omega (arith, count_zero (λ x. element x == j) (box_of nest) none)
      by (inl (x, within, here)) =
          let box = All-contains (IsInBox (spans_of nest.vars)) (box_of nest) x (box_long nest) within in
          let in_loops : (v : ℕ) → v < 4 → in_loop (loops nest) v (number_of x v) ≡ true = λ v low. in_loop-between (loops nest) v (number_of x v) (let each = subst (λ s. IsInSpan s (number_of x v)) (span_at nest.vars v low) (box.each v low) in record { low = each.0; high = each.1 }) in
          let single = box_once (loops nest) nest x (λ v. refl) (λ v. refl) box.four in_loops in
          let fewer = count_le (λ y. element y == j) (λ y. same every y x) (box_of nest)
          (λ k d below yes. let y = get_or (box_of nest) k d in
          ap (λ z. same every z x) (one_point y x (box_long nest k d below) box (eqb-true (element y) j yes ∙ sym (eqb-true (element x) j here))) ∙ same-refl every x) in
          omega (arith, fewer, single)

  -- so there are at most as many points as elements
  pub small : length (box_of nest) ≤ array.rows * array.cols
  small =
      let n = array.rows * array.cols in
      let xs = box_of nest in
      let hits : List ℤ → ℕ → ℕ = λ x j. cond {A = ℕ} (element x == j) 1 0 in
      let each : All (λ x. sum_by (hits x) (range_with_len 0 n) ≡ 1) xs = λ k d below.
      let x = get_or xs k d in
      sum_by_one (hits x) n (element x) (inside x (box_long nest k d below)) (λ j low apart. cond-false {A = ℕ} (element x == j) 1 0 (ne_eqb (element x) j (λ same. apart (sym same))))
      ∙ cond-true {A = ℕ} (element x == element x) 1 0 (eq-eqb (element x) (element x) refl) in
      let ones : sum_by (λ (x : List ℤ). sum_by (hits x) (range_with_len 0 n)) xs ≡ length xs = sum_by_agree (λ x. sum_by (hits x) (range_with_len 0 n)) (λ x. 1) xs each ∙ ones_length xs in
      let swapped = sum_by-swap hits xs (range_with_len 0 n) in
      let most = sum_by-le (λ j. sum_by (λ x. hits x j) xs) 1 (range_with_len 0 n) (λ k d below. once (get_or (range_with_len 0 n) k d)) in
      omega (arith, ones, swapped, most, length-range_with_len 0 n)
    where
      ones_length : {X : Type 0} (xs : List X) → sum_by (λ (x : X). 1) xs ≡ length xs
      ones_length [] = refl
      ones_length {X} (x ∷ xs) = sum_by-cons (λ (x : X). 1) x xs ∙ ap (λ n. 1 + n) (ones_length xs) ∙ omega arith

pub boxes_are_small : BoxesOfReplacingNestsAreSmall
boxes_are_small job nest array is replaces named = small job nest array is replaces named
