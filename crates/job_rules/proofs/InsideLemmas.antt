-- The subscripts of an accepted nest stay inside their extents, at each point of four values.
use Rattle.std.proofs.Common.{◌≡◌, ◌∙◌, inl, inr, ℕ, zero, suc, ◌+◌, ◌<◌, ◌≤◌, Bool, true, false, ◌||◌, ◌==◌, cond, if◌then◌else◌, List, [], ◌∷◌, ◌++◌, map, Option, Some, None, length, ℤ, pos, ◌+ℤ◌, ◌*ℤ◌, ◌≤ℤ◌, ◌<ℤ◌, refl, sym, ap, subst, arith}
use Rattle.std.specs.Prelude.{int_le}
use Rattle.std.specs.List.{fold, list_any}
use Rattle.std.specs.Option.{option_or}
use Rattle.std.specs.Str.{bytes_eq}
use Rattle.std.proofs.lemmas.Int.{ints, by_lt_z}
use lib.IntN.{zero-*ℤ}
use Rattle.std.proofs.lemmas.List.{get_or_past, length-map, length_push}
use Rattle.bern_base.specs.Affine.{AffineForm, IsInBox, IsInSpan, number_of, value_at}
use Rattle.bern_base.specs.declared.job.ExtentDecl.{ExtentDecl}
use Rattle.bern_base.specs.declared.limits.TheConstants.{MOST_VARIABLES}
use Rattle.bern_base.specs.declared.raw.RawItem.{RawItem}
use Rattle.bern_base.specs.declared.raw.RawVar.{RawVar}
use Rattle.job_model.specs.Points.{bounds_at, spans_of}
use Rattle.job_rules.specs.declared.names.Named.{Named}
use Rattle.job_rules.specs.declared.names.Named.TheVariants as named
use Rattle.job_rules.specs.declared.ranges.Range.{Range}
use Rattle.job_rules.specs.Known.{Known, lookup}
use Rattle.job_rules.specs.State.{is_known}
use Rattle.job_rules.specs.Looked.{Scope, named_in, meaning_of, meaning_in, item_of, span_of, with_variable, variables_of}
use Rattle.job_rules.specs.Sums.{Sum, variable_of, constant_part, coefficient_part, constant_of, coefficient_of, is_within, range_at}
use Rattle.job_rules.specs.Nests.{is_box_empty, leaves_extent, range_of}
use Rattle.job_rules.specs.Points.{Point, InBox, value_part, value_at as sum_at, LeavesSomewhere}
use Rattle.job_rules.specs.After.{narrow_of, checked_span}
use Rattle.job_rules.proofs.FormLemmas.{narrow_is}
use Rattle.job_rules.proofs.BoxLemmas.{added, Keeps, step_none, step_old, leaves_at_points}

-- the variables of a table have numbers below this
abbrev IsBelow : ℕ → Named → Type 0
IsBelow n (named.Variable v) = v < n
IsBelow n other = Unit {0}

abbrev pub AreBelow : ℕ → Known → Type 0
AreBelow n [] = Unit {0}
AreBelow n (entry ∷ known) = IsBelow n entry.1 × AreBelow n known

one_below : (m n : ℕ) (what : Named) → m ≤ n → IsBelow m what → IsBelow n what
one_below m n (named.Variable v) more below = omega arith
one_below m n (named.Extent v) more below = tt
one_below m n (named.Place v) more below = tt
one_below m n (named.Format v) more below = tt
one_below m n (named.Array v) more below = tt

pub all_below : (m n : ℕ) (known : Known) → m ≤ n → AreBelow m known → AreBelow n known
all_below m n [] more below = tt
all_below m n (entry ∷ known) more below = (one_below m n entry.1 more below.0, all_below m n known more below.1)

pub below_push : (n : ℕ) (known : Known) (name : List ℕ) (what : Named) → AreBelow n known → IsBelow n what → AreBelow n (known ++ (name, what) ∷ [])
below_push n [] name what below one = (one, tt)
below_push n (entry ∷ known) name what below one = (below.0, below_push n known name what below.1 one)

found_below : (n : ℕ) (name : List ℕ) (known : Known) (what : Named) → AreBelow n known → lookup name known ≡ Some what → IsBelow n what
found_below n name [] what below found = absurd cc
found_below n name (entry ∷ known) what below found = by (bytes_eq name entry.0) refl (found_below n name known what below.1)
  where
    by : (b : Bool) → bytes_eq name entry.0 ≡ b → (lookup name known ≡ Some what → IsBelow n what) → IsBelow n what
    by true e more = let same : Some entry.1 ≡ Some what = sym (ap (λ b. cond b (Some entry.1) (lookup name known)) e) ∙ found in
        let is : entry.1 ≡ what = cc in subst (IsBelow n) is below.0
    by false e more = more (sym (ap (λ b. cond b (Some entry.1) (lookup name known)) e) ∙ found)

-- variables are numbered from 0, and there are no more names than variables
numbered_below : (known : Known) (vars : List RawVar) → AreBelow (length known) known → AreBelow (length (fold with_variable known vars)) (fold with_variable known vars) × (length (fold with_variable known vars) ≤ length known + length vars)
numbered_below known [] below = (below, omega arith)
numbered_below known (var ∷ vars) below =
    let next = by (is_known var.name known) in
    let rest = numbered_below (with_variable known var) vars next.0 in
    (rest.0, omega (arith, rest.1, next.1))
  where
    by : (b : Bool) → (let new : Known = (if b then known else known ++ (var.name, named.Variable (length known)) ∷ []) in AreBelow (length new) new × (length new ≤ length known + 1))
    by true = (below, omega arith)
    by false =
        let size = length_push known (var.name, named.Variable (length known)) in
        let more : length known ≤ length (known ++ (var.name, named.Variable (length known)) ∷ []) = omega arith in
        (below_push (length (known ++ (var.name, named.Variable (length known)) ∷ [])) known var.name (named.Variable (length known)) (all_below (length known) (length (known ++ (var.name, named.Variable (length known)) ∷ [])) known more below) (omega arith), omega arith)

-- the scope of a nest of at most four names
abbrev pub IsNarrowScope : Scope → Type 0
IsNarrowScope scope = AreBelow 4 scope.names × AreBelow 4 scope.variables

pub narrow_scope : (names : Known) (vars : List RawVar) (extents : List ExtentDecl) → AreBelow 0 names → length vars ≤ MOST_VARIABLES → IsNarrowScope (record { names = names; variables = variables_of vars; extents = extents })
unfolding variables_of
narrow_scope names vars extents plain few =
    let all = numbered_below [] vars tt in
    (all_below 0 4 names (omega arith) plain, all_below (length (fold with_variable [] vars)) 4 (fold with_variable [] vars) (omega (arith, all.1)) all.0)

-- the variables of a sum are among the four
abbrev pub FewVariables : Sum → Type 0
FewVariables [] = Unit {0}
FewVariables (item ∷ items) = ((v : ℕ) → variable_of item.meaning ≡ Some v → v < 4) × FewVariables items

meaning_below : (o : Option Named) → ((what : Named) → o ≡ Some what → IsBelow 4 what) → (v : ℕ) → variable_of (meaning_of o) ≡ Some v → v < 4
meaning_below None below v is = absurd cc
meaning_below (Some (named.Variable w)) below v is = let e : w ≡ v = cc in let b = below (named.Variable w) refl in omega arith
meaning_below (Some (named.Extent w)) below v is = absurd cc
meaning_below (Some (named.Place w)) below v is = absurd cc
meaning_below (Some (named.Format w)) below v is = absurd cc
meaning_below (Some (named.Array w)) below v is = absurd cc

either_below : (a b : Option Named) → ((what : Named) → a ≡ Some what → IsBelow 4 what) → ((what : Named) → b ≡ Some what → IsBelow 4 what) → (what : Named) → option_or a b ≡ Some what → IsBelow 4 what
either_below None b first second what is = second what is
either_below (Some x) b first second what is = first what is

item_below : (scope : Scope) → IsNarrowScope scope → (name : Option (List ℕ)) (v : ℕ) → variable_of (meaning_in scope name) ≡ Some v → v < 4
item_below scope narrow None v is = absurd cc
item_below scope narrow (Some name) v is =
    meaning_below (named_in scope name) (either_below (lookup name scope.names) (lookup name scope.variables) (λ w f. found_below 4 name scope.names w narrow.0 f) (λ w f. found_below 4 name scope.variables w narrow.1 f)) v is

pub few_variables : (scope : Scope) → IsNarrowScope scope → (items : List RawItem) → FewVariables (map (item_of scope) items)
unfolding item_of
few_variables scope narrow [] = tt
few_variables scope narrow (item ∷ items) = (item_below scope narrow item.name, few_variables scope narrow items)

abbrev four_variables : List ℕ
four_variables = 0 ∷ 1 ∷ 2 ∷ 3 ∷ []

among_four : (w : ℕ) → w < 4 → list_any (λ x. x == w) four_variables ≡ true
among_four zero below = refl
among_four (suc zero) below = refl
among_four (suc (suc zero)) below = refl
among_four (suc (suc (suc zero))) below = refl
among_four (suc (suc (suc (suc w)))) below = absurd (omega (arith, below))

module _ (p : Point) where
  abbrev Stepped : ℤ → ℤ → (ℕ → ℤ) → ℤ → Option ℕ → Type 0
  Stepped c val k n o = Keeps p (c +ℤ (elim o [ None ↦ n | Some w ↦ pos 0 ])) (val +ℤ (elim o [ None ↦ n | Some w ↦ n *ℤ p w ]))
      (λ v. k v +ℤ (elim o [ None ↦ pos 0 | Some w ↦ if w == v then n else pos 0 ])) four_variables

  step_four : (c val : ℤ) (k : ℕ → ℤ) → Keeps p c val k four_variables → (n : ℤ) (o : Option ℕ) → ((v : ℕ) → o ≡ Some v → v < 4) → Stepped c val k n o
  step_four c val k keeps n None few = step_none p c val k four_variables keeps n
  step_four c val k keeps n (Some w) few = step_old p c val k four_variables keeps w n (among_four w (few w refl))

  keep_four : (items : Sum) (c val : ℤ) (k : ℕ → ℤ) → FewVariables items → Keeps p c val k four_variables
      → Keeps p (fold (λ total item. total +ℤ constant_part item) c items) (fold (λ total item. total +ℤ value_part p item) val items) (λ v. fold (λ total item. total +ℤ coefficient_part v item) (k v) items) four_variables
  keep_four [] c val k few keeps = keeps
  keep_four (item ∷ items) c val k few keeps =
      keep_four items (c +ℤ constant_part item) (val +ℤ value_part p item) (λ v. k v +ℤ coefficient_part v item) few.1 (step_four c val k keeps item.number (variable_of item.meaning) few.0)

  zeros : added (λ v. pos 0 *ℤ p v) (pos 0) four_variables ≡ pos 0
  zeros = λ i. added (λ v. zero-*ℤ (p v) i) (pos 0) four_variables

  -- the value of a sum of four variables, by its constant and its four coefficients
  four_is : (sum : Sum) → FewVariables sum → sum_at p sum ≡ added (λ v. coefficient_of v sum *ℤ p v) (constant_of sum) four_variables
  unfolding constant_of coefficient_of
  four_is sum few = (keep_four sum (pos 0) (pos 0) (λ v. pos 0) few (record { same = sym zeros; once = (refl, (refl, (refl, (refl, tt)))); covers = λ w none. refl })).same

-- is that of its form
form_is : (sum : Sum) (point : List ℤ) → FewVariables sum → is_within sum ≡ true → sum_at (number_of point) sum ≡ value_at (narrow_of sum) point
form_is sum point few within = four_is (number_of point) sum few ∙ sym (ap (λ (form : AffineForm). value_at form point) (narrow_is sum within))

-- a point of four values lies in the box of the ranges that its spans come from
module _ (scope : Scope) where
  bounds_are : (vars : List RawVar) (v : ℕ) → bounds_at (map (checked_span scope) vars) v ≡ ((range_at (map range_of (map (span_of scope) vars)) v).lo, (range_at (map range_of (map (span_of scope) vars)) v).hi)
  unfolding checked_span span_of
  bounds_are [] v = refl
  bounds_are (var ∷ vars) zero = refl
  bounds_are (var ∷ vars) (suc v) = bounds_are vars v

  module _ (vars : List RawVar) (few : length vars ≤ MOST_VARIABLES) (point : List ℤ) (inside : IsInBox (spans_of (map (checked_span scope) vars)) point) where
    abbrev ranges : List Range
    ranges = map range_of (map (span_of scope) vars)

    no_more : (v : ℕ) → 4 ≤ v → ((range_at ranges v).lo ≤ℤ number_of point v) × (number_of point v <ℤ (range_at ranges v).hi)
    no_more v past =
        let many = length-map (map (span_of scope) vars) range_of in
        let as_many = length-map vars (span_of scope) in
        let short = inside.four in
        let no_span = get_or_past ranges v (record { lo = pos 0; hi = pos 1 }) (omega (arith, many, as_many, few, past)) in
        let no_value = get_or_past point v (pos 0) (omega (arith, short, past)) in
        rw (no_span, no_value) (omega (arith, ints), omega (arith, ints))

    pub in_ranges : InBox ranges (number_of point)
    in_ranges zero = subst (λ s. IsInSpan s (number_of point 0)) (bounds_are vars 0) (inside.each 0 (omega arith))
    in_ranges (suc zero) = subst (λ s. IsInSpan s (number_of point 1)) (bounds_are vars 1) (inside.each 1 (omega arith))
    in_ranges (suc (suc zero)) = subst (λ s. IsInSpan s (number_of point 2)) (bounds_are vars 2) (inside.each 2 (omega arith))
    in_ranges (suc (suc (suc zero))) = subst (λ s. IsInSpan s (number_of point 3)) (bounds_are vars 3) (inside.each 3 (omega arith))
    in_ranges (suc (suc (suc (suc v)))) = no_more (suc (suc (suc (suc v)))) (omega arith)

pub box_some : (ranges : List Range) (p : Point) → InBox ranges p → is_box_empty ranges ≡ false
unfolding is_box_empty
box_some [] p inside = refl
box_some (range ∷ ranges) p inside =
    let here = inside 0 in
    let e : int_le range.hi range.lo ≡ false = grind (arith, ints, here.0, here.1) in
    ap (λ b. b || list_any (λ r. int_le r.hi r.lo) ranges) e ∙ box_some ranges (λ v. p (suc v)) (λ v. inside (suc v))

-- where the test of J10 fails, the form stays inside at each point
pub stays_inside : (sum : Sum) (ranges : List Range) (extent : ℕ) (point : List ℤ) → FewVariables sum → is_within sum ≡ true → InBox ranges (number_of point) → leaves_extent ranges extent sum ≡ false
    → (pos 0 ≤ℤ value_at (narrow_of sum) point) × (value_at (narrow_of sum) point <ℤ pos extent)
stays_inside sum ranges extent point few within inside stays =
    let p : Point = number_of point in
    let same = form_is sum point few within in
    let out : LeavesSomewhere ranges extent sum → ⊥ = (λ somewhere. let t = (leaves_at_points ranges extent sum (box_some ranges p inside)).1 somewhere in cc) in
    let low : sum_at p sum <ℤ pos 0 → ⊥ = (λ h. out (p, inside, inl h)) in
    let high : pos extent ≤ℤ sum_at p sum → ⊥ = (λ h. out (p, inside, inr h)) in
    subst (λ x. (pos 0 ≤ℤ x) × (x <ℤ pos extent)) same
    (by_lt_z (sum_at p sum) (pos 0) (λ h. absurd (low h)) (λ h. h), by_lt_z (sum_at p sum) (pos extent) (λ h. h) (λ h. absurd (high h)))
