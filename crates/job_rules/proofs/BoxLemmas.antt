-- The values of a sum over the points of a box.
use Rattle.std.proofs.Common.{◌≡◌, ◌∙◌, inl, inr, ℕ, zero, suc, Bool, true, false, ◌||◌, ◌==◌, if◌then◌else◌, List, [], ◌∷◌, ◌++◌, Option, Some, None, ℤ, pos, negsuc, ◌+ℤ◌, ◌-ℤ◌, ◌*ℤ◌, ◌≤ℤ◌, ◌<ℤ◌, refl, sym, ap, subst, arith}
use Rattle.std.specs.Prelude.{int_lt, int_le}
use Rattle.std.specs.List.{fold, list_any}
use Rattle.std.proofs.lemmas.Bool.{or_parts}
use Rattle.std.proofs.lemmas.Bool.Decides.{nat_tests}
use Rattle.std.proofs.lemmas.Int.{ints}
use Rattle.std.proofs.lemmas.List.Folds.{list_any-append}
use Rattle.std.proofs.lemmas.List.Sums.{fold-append}
use lib.IntN.{+ℤ_idl, +ℤ_idr, zero-*ℤ}
use Rattle.job_rules.specs.declared.ranges.Range.{Range}
use Rattle.job_rules.specs.Sums.{Sum, variable_of, constant_part, coefficient_part, add_variable, constant_of, coefficient_of, variables_in, range_at, least_part, greatest_part, least, greatest}
use Rattle.job_rules.specs.Nests.{is_box_empty, leaves_extent}
use Rattle.job_rules.specs.Points.{Point, InBox, value_part, value_at, LeavesSomewhere, LeavesAtPoints}
use Rattle.job_rules.proofs.ProductLemmas.{add_mul, mul_rises, mul_falls, swap_plus}

-- a number and what each variable of a list gives
abbrev pub added : (ℕ → ℤ) → ℤ → List ℕ → ℤ
added f c vs = fold (λ total v. total +ℤ f v) c vs

four : (a b c d : ℤ) → (a +ℤ b) +ℤ (c +ℤ d) ≡ (a +ℤ c) +ℤ (b +ℤ d)
four a b c d = omega (arith, ints)

added-plus : (f g : ℕ → ℤ) (a b : ℤ) (vs : List ℕ) → added (λ v. f v +ℤ g v) (a +ℤ b) vs ≡ added f a vs +ℤ added g b vs
added-plus f g a b [] = refl
added-plus f g a b (v ∷ vs) = ap (λ s. added (λ w. f w +ℤ g w) s vs) (four a b (f v) (g v)) ∙ added-plus f g (a +ℤ f v) (b +ℤ g v) vs

added-start : (f : ℕ → ℤ) (c n : ℤ) (vs : List ℕ) → added f (c +ℤ n) vs ≡ added f c vs +ℤ n
added-start f c n [] = refl
added-start f c n (v ∷ vs) = ap (λ s. added f s vs) (swap_plus c n (f v)) ∙ added-start f (c +ℤ f v) n vs

added-le : (f g : ℕ → ℤ) (a b : ℤ) (vs : List ℕ) → a ≤ℤ b → ((v : ℕ) → f v ≤ℤ g v) → added f a vs ≤ℤ added g b vs
added-le f g a b [] start each = start
added-le f g a b (v ∷ vs) start each = let one = each v in added-le f g (a +ℤ f v) (b +ℤ g v) vs (omega (arith, ints)) each

flip : (a b : ℕ) (r : Bool) → (a == b) ≡ r → (b == a) ≡ r
flip a b true e = grind (arith, nat_tests)
flip a b false e = grind (arith, nat_tests)

-- n at w, and 0 elsewhere
abbrev pub only : ℕ → ℤ → ℕ → ℤ
only w n v = if w == v then n else pos 0

module _ (w : ℕ) (n : ℤ) (p : ℕ → ℤ) where
  abbrev part : ℕ → ℤ
  part v = only w n v *ℤ p v

  part-other : (v : ℕ) → (w == v) ≡ false → part v ≡ pos 0
  part-other v other = ap (λ b. (if b then n else pos 0) *ℤ p v) other ∙ zero-*ℤ (p v)

  part-same : (v : ℕ) → (w == v) ≡ true → part v ≡ n *ℤ p w
  part-same v same = let e : v ≡ w = grind (arith, nat_tests) in ap (λ b. (if b then n else pos 0) *ℤ p v) same ∙ ap (λ x. n *ℤ p x) e

  added-none : (c : ℤ) (vs : List ℕ) → list_any (λ x. x == w) vs ≡ false → added part c vs ≡ c
  added-none c [] none = refl
  added-none c (v ∷ vs) none =
      let both = or_parts (v == w) (list_any (λ x. x == w) vs) none in
      ap (λ t. added part (c +ℤ t) vs) (part-other v (flip v w false both.0)) ∙ ap (λ t. added part t vs) (+ℤ_idr c) ∙ added-none c vs both.1

-- no variable stands twice
abbrev pub Distinct : List ℕ → Type 0
Distinct [] = Unit {0}
Distinct (v ∷ vs) = (list_any (λ x. x == v) vs ≡ false) × Distinct vs

Distinct-push : (vs : List ℕ) (w : ℕ) → Distinct vs → list_any (λ x. x == w) vs ≡ false → Distinct (vs ++ w ∷ [])
Distinct-push [] w distinct none = (refl, tt)
Distinct-push (v ∷ vs) w distinct none =
    let both = or_parts (v == w) (list_any (λ x. x == w) vs) none in
    let last : (w == v) ≡ false = flip v w false both.0 in
    (list_any-append (λ x. x == v) vs (w ∷ []) ∙ ap (λ b. b || (w == v || false)) distinct.0 ∙ ap (λ b. b || false) last, Distinct-push vs w distinct.1 both.1)

added-once : (w : ℕ) (n : ℤ) (p : ℕ → ℤ) (c : ℤ) (vs : List ℕ) → Distinct vs → list_any (λ x. x == w) vs ≡ true → added (part w n p) c vs ≡ c +ℤ n *ℤ p w
added-once w n p c [] distinct some = absurd cc
added-once w n p c (v ∷ vs) distinct some = by (v == w) refl (added-once w n p c vs distinct.1)
  where
    by : (b : Bool) → (v == w) ≡ b → (list_any (λ x. x == w) vs ≡ true → added (part w n p) c vs ≡ c +ℤ n *ℤ p w) → added (part w n p) c (v ∷ vs) ≡ c +ℤ n *ℤ p w
    by true same rest_is =
        let e : v ≡ w = grind (arith, nat_tests) in
        let none : list_any (λ x. x == w) vs ≡ false = subst (λ k. list_any (λ x. x == k) vs ≡ false) e distinct.0 in
        ap (λ t. added (part w n p) (c +ℤ t) vs) (part-same w n p v (flip v w true same)) ∙ added-none w n p (c +ℤ n *ℤ p w) vs none
    by false other rest_is =
        let rest : list_any (λ x. x == w) vs ≡ true = sym (ap (λ b. b || list_any (λ x. x == w) vs) other) ∙ some in
        ap (λ t. added (part w n p) (c +ℤ t) vs) (part-other w n p v (flip v w false other)) ∙ ap (λ t. added (part w n p) t vs) (+ℤ_idr c) ∙ rest_is rest

-- a value, by a constant, the coefficient of each variable, and a list of the variables that have one
pub record Keeps (p : Point) (c val : ℤ) (k : ℕ → ℤ) (vs : List ℕ) : Type 0 where
  pub same : val ≡ added (λ v. k v *ℤ p v) c vs
  pub once : Distinct vs
  pub covers : (w : ℕ) → list_any (λ x. x == w) vs ≡ false → k w ≡ pos 0

module _ (p : Point) (c val : ℤ) (k : ℕ → ℤ) (vs : List ℕ) (keeps : Keeps p c val k vs) where
  pub step_none : (n : ℤ) → Keeps p (c +ℤ n) (val +ℤ n) (λ v. k v +ℤ pos 0) vs
  step_none n = record {
    same = ap (λ x. x +ℤ n) keeps.same ∙ sym (added-start (λ v. k v *ℤ p v) c n vs) ∙ sym (λ i. added (λ v. +ℤ_idr (k v) i *ℤ p v) (c +ℤ n) vs);
    once = keeps.once;
    covers = λ w none. +ℤ_idr (k w) ∙ keeps.covers w none;
  }

  -- the products of the new coefficients, apart
  spread : (w : ℕ) (n : ℤ) (us : List ℕ) → added (λ v. (k v +ℤ only w n v) *ℤ p v) (c +ℤ pos 0) us ≡ added (λ v. k v *ℤ p v) c us +ℤ added (part w n p) (pos 0) us
  spread w n us = (λ i. added (λ v. add_mul (k v) (only w n v) (p v) i) (c +ℤ pos 0) us) ∙ added-plus (λ v. k v *ℤ p v) (part w n p) c (pos 0) us

  pub step_old : (w : ℕ) (n : ℤ) → list_any (λ x. x == w) vs ≡ true → Keeps p (c +ℤ pos 0) (val +ℤ n *ℤ p w) (λ v. k v +ℤ only w n v) vs
  step_old w n some = record {
    same = ap (λ x. x +ℤ n *ℤ p w) keeps.same ∙ ap (λ x. added (λ v. k v *ℤ p v) c vs +ℤ x) (sym (added-once w n p (pos 0) vs keeps.once some ∙ +ℤ_idl (n *ℤ p w))) ∙ sym (spread w n vs);
    once = keeps.once;
    covers = λ v none. by v none (w == v) refl;
  }
    where
      by : (v : ℕ) → list_any (λ x. x == v) vs ≡ false → (b : Bool) → (w == v) ≡ b → k v +ℤ only w n v ≡ pos 0
      by v none true same =
          let e : v ≡ w = grind (arith, nat_tests) in
          let other : list_any (λ x. x == w) vs ≡ false = subst (λ u. list_any (λ x. x == u) vs ≡ false) e none in
          absurd cc
      by v none false other = ap (λ b. k v +ℤ (if b then n else pos 0)) other ∙ +ℤ_idr (k v) ∙ keeps.covers v none

  step_new : (w : ℕ) (n : ℤ) → list_any (λ x. x == w) vs ≡ false → Keeps p (c +ℤ pos 0) (val +ℤ n *ℤ p w) (λ v. k v +ℤ only w n v) (vs ++ w ∷ [])
  step_new w n none = record {
    same = sym all;
    once = Distinct-push vs w keeps.once none;
    covers = λ v gone.
        let both = or_parts (list_any (λ x. x == v) vs) (w == v || false) (sym (list_any-append (λ x. x == v) vs (w ∷ [])) ∙ gone) in
        let other = or_parts (w == v) false both.1 in
        ap (λ b. k v +ℤ (if b then n else pos 0)) other.0 ∙ +ℤ_idr (k v) ∙ keeps.covers v both.0;
  }
    where
      both : ℕ → ℤ
      both v = (k v +ℤ only w n v) *ℤ p v

      self : (w == w) ≡ true
      self = grind (arith, nat_tests)

      last : (k w +ℤ only w n w) *ℤ p w ≡ n *ℤ p w
      last = ap (λ x. (x +ℤ only w n w) *ℤ p w) (keeps.covers w none) ∙ ap (λ x. x *ℤ p w) (+ℤ_idl (only w n w)) ∙ part-same w n p w self

      front : added (λ v. (k v +ℤ only w n v) *ℤ p v) (c +ℤ pos 0) vs ≡ val
      front = spread w n vs ∙ ap (λ x. added (λ v. k v *ℤ p v) c vs +ℤ x) (added-none w n p (pos 0) vs none) ∙ +ℤ_idr (added (λ v. k v *ℤ p v) c vs) ∙ sym keeps.same

      all : added (λ v. (k v +ℤ only w n v) *ℤ p v) (c +ℤ pos 0) (vs ++ w ∷ []) ≡ val +ℤ n *ℤ p w
      all = fold-append (λ total v. total +ℤ (k v +ℤ only w n v) *ℤ p v) (c +ℤ pos 0) vs (w ∷ []) ∙ ap (λ x. x +ℤ (k w +ℤ only w n w) *ℤ p w) front ∙ ap (λ x. val +ℤ x) last

  step_some : (w : ℕ) (n : ℤ) (b : Bool) → list_any (λ x. x == w) vs ≡ b → Keeps p (c +ℤ pos 0) (val +ℤ n *ℤ p w) (λ v. k v +ℤ only w n v) (if list_any (λ x. x == w) vs then vs else vs ++ w ∷ [])
  step_some w n true some = subst (λ b. Keeps p (c +ℤ pos 0) (val +ℤ n *ℤ p w) (λ v. k v +ℤ only w n v) (if b then vs else vs ++ w ∷ [])) (sym some) (step_old w n some)
  step_some w n false none = subst (λ b. Keeps p (c +ℤ pos 0) (val +ℤ n *ℤ p w) (λ v. k v +ℤ only w n v) (if b then vs else vs ++ w ∷ [])) (sym none) (step_new w n none)

  abbrev Stepped : ℤ → Option ℕ → Type 0
  Stepped n o = Keeps p (c +ℤ (elim o [ None ↦ n | Some w ↦ pos 0 ])) (val +ℤ (elim o [ None ↦ n | Some w ↦ n *ℤ p w ]))
      (λ v. k v +ℤ (elim o [ None ↦ pos 0 | Some w ↦ if w == v then n else pos 0 ])) (elim o [ None ↦ vs | Some w ↦ if list_any (λ x. x == w) vs then vs else vs ++ w ∷ [] ])

  step : (n : ℤ) (o : Option ℕ) → Stepped n o
  step n None = step_none n
  step n (Some w) = step_some w n (list_any (λ x. x == w) vs) refl

keeps_all : (p : Point) (items : Sum) (c val : ℤ) (k : ℕ → ℤ) (vs : List ℕ) → Keeps p c val k vs
    → Keeps p (fold (λ total item. total +ℤ constant_part item) c items) (fold (λ total item. total +ℤ value_part p item) val items) (λ v. fold (λ total item. total +ℤ coefficient_part v item) (k v) items) (fold add_variable vs items)
keeps_all p [] c val k vs keeps = keeps
keeps_all p (item ∷ items) c val k vs keeps =
    keeps_all p items (c +ℤ constant_part item) (val +ℤ value_part p item) (λ v. k v +ℤ coefficient_part v item) (add_variable vs item) (step p c val k vs keeps item.number (variable_of item.meaning))

-- the value of a sum, as it is written, is its constant and the products of its coefficients
pub value_is : (p : Point) (sum : Sum) → value_at p sum ≡ added (λ v. coefficient_of v sum *ℤ p v) (constant_of sum) (variables_in sum)
unfolding coefficient_of constant_of variables_in
value_is p sum = (keeps_all p sum (pos 0) (pos 0) (λ v. pos 0) [] (record { same = refl; once = tt; covers = λ w none. refl })).same

or_true : (b : Bool) → (b || true) ≡ true
or_true true = refl
or_true false = refl

-- a multiple of a variable is at least its least part and at most its greatest
part_above : (k : ℤ) (range : Range) (x : ℤ) → range.lo ≤ℤ x → x <ℤ range.hi → least_part k range ≤ℤ (k *ℤ x)
part_above (pos m) range x lo hi =
    let e : int_lt (pos m) (pos 0) ≡ false = grind (arith, ints) in
    subst (λ b. (if b then pos m *ℤ (range.hi -ℤ pos 1) else pos m *ℤ range.lo) ≤ℤ (pos m *ℤ x)) (sym e) (mul_rises m range.lo x lo)
part_above (negsuc m) range x lo hi =
    let e : int_lt (negsuc m) (pos 0) ≡ true = grind (arith, ints) in
    subst (λ b. (if b then negsuc m *ℤ (range.hi -ℤ pos 1) else negsuc m *ℤ range.lo) ≤ℤ (negsuc m *ℤ x)) (sym e) (mul_falls m x (range.hi -ℤ pos 1) (omega (arith, ints)))

part_below : (k : ℤ) (range : Range) (x : ℤ) → range.lo ≤ℤ x → x <ℤ range.hi → (k *ℤ x) ≤ℤ greatest_part k range
part_below (pos m) range x lo hi =
    let e : int_lt (pos m) (pos 0) ≡ false = grind (arith, ints) in
    subst (λ b. (pos m *ℤ x) ≤ℤ (if b then pos m *ℤ range.lo else pos m *ℤ (range.hi -ℤ pos 1))) (sym e) (mul_rises m x (range.hi -ℤ pos 1) (omega (arith, ints)))
part_below (negsuc m) range x lo hi =
    let e : int_lt (negsuc m) (pos 0) ≡ true = grind (arith, ints) in
    subst (λ b. (negsuc m *ℤ x) ≤ℤ (if b then negsuc m *ℤ range.lo else negsuc m *ℤ (range.hi -ℤ pos 1))) (sym e) (mul_falls m range.lo x lo)

-- the value of a variable at which its multiple is least, and at which it is greatest
abbrev lowest : ℤ → Range → ℤ
lowest k range = if int_lt k (pos 0) then range.hi -ℤ pos 1 else range.lo

abbrev highest : ℤ → Range → ℤ
highest k range = if int_lt k (pos 0) then range.lo else range.hi -ℤ pos 1

choice : (k a b : ℤ) (test : Bool) → (if test then k *ℤ a else k *ℤ b) ≡ k *ℤ (if test then a else b)
choice k a b true = refl
choice k a b false = refl

abbrev Within : Range → ℤ → Type 0
Within range x = (range.lo ≤ℤ x) × (x <ℤ range.hi)

chosen : (range : Range) (a b : ℤ) (test : Bool) → Within range a → Within range b → Within range (if test then a else b)
chosen range a b true first second = first
chosen range a b false first second = second

some_value : (ranges : List Range) (v : ℕ) → list_any (λ range. int_le range.hi range.lo) ranges ≡ false → (range_at ranges v).lo <ℤ (range_at ranges v).hi
some_value [] v none = omega (arith, ints)
some_value (range ∷ ranges) zero none =
    let both = or_parts (int_le range.hi range.lo) (list_any (λ r. int_le r.hi r.lo) ranges) none in
    grind (arith, ints, both.0)
some_value (range ∷ ranges) (suc v) none =
    let both = or_parts (int_le range.hi range.lo) (list_any (λ r. int_le r.hi r.lo) ranges) none in
    some_value ranges v both.1

module _ (ranges : List Range) (sum : Sum) where
  abbrev low_point : Point
  low_point v = lowest (coefficient_of v sum) (range_at ranges v)

  abbrev high_point : Point
  high_point v = highest (coefficient_of v sum) (range_at ranges v)

  least_met : value_at low_point sum ≡ least ranges sum
  unfolding least
  least_met = value_is low_point sum
      ∙ (λ i. added (λ v. sym (choice (coefficient_of v sum) ((range_at ranges v).hi -ℤ pos 1) (range_at ranges v).lo (int_lt (coefficient_of v sum) (pos 0))) i) (constant_of sum) (variables_in sum))

  greatest_met : value_at high_point sum ≡ greatest ranges sum
  unfolding greatest
  greatest_met = value_is high_point sum
      ∙ (λ i. added (λ v. sym (choice (coefficient_of v sum) (range_at ranges v).lo ((range_at ranges v).hi -ℤ pos 1) (int_lt (coefficient_of v sum) (pos 0))) i) (constant_of sum) (variables_in sum))

  least_below : (p : Point) → InBox ranges p → least ranges sum ≤ℤ value_at p sum
  unfolding least
  least_below p inside = subst (λ x. least ranges sum ≤ℤ x) (sym (value_is p sum))
      (added-le (λ v. least_part (coefficient_of v sum) (range_at ranges v)) (λ v. coefficient_of v sum *ℤ p v) (constant_of sum) (constant_of sum) (variables_in sum) (omega (arith, ints))
      (λ v. part_above (coefficient_of v sum) (range_at ranges v) (p v) (inside v).0 (inside v).1))

  greatest_above : (p : Point) → InBox ranges p → value_at p sum ≤ℤ greatest ranges sum
  unfolding greatest
  greatest_above p inside = subst (λ x. x ≤ℤ greatest ranges sum) (sym (value_is p sum))
      (added-le (λ v. coefficient_of v sum *ℤ p v) (λ v. greatest_part (coefficient_of v sum) (range_at ranges v)) (constant_of sum) (constant_of sum) (variables_in sum) (omega (arith, ints))
      (λ v. part_below (coefficient_of v sum) (range_at ranges v) (p v) (inside v).0 (inside v).1))

  module _ (some : is_box_empty ranges ≡ false) where
    first_within : (v : ℕ) → Within (range_at ranges v) (range_at ranges v).lo
    unfolding is_box_empty
    first_within v = let e = some_value ranges v some in (omega (arith, ints), e)

    last_within : (v : ℕ) → Within (range_at ranges v) ((range_at ranges v).hi -ℤ pos 1)
    unfolding is_box_empty
    last_within v = let e = some_value ranges v some in (omega (arith, ints), omega (arith, ints))

    low_inside : InBox ranges low_point
    low_inside v = chosen (range_at ranges v) ((range_at ranges v).hi -ℤ pos 1) (range_at ranges v).lo (int_lt (coefficient_of v sum) (pos 0)) (last_within v) (first_within v)

    high_inside : InBox ranges high_point
    high_inside v = chosen (range_at ranges v) (range_at ranges v).lo ((range_at ranges v).hi -ℤ pos 1) (int_lt (coefficient_of v sum) (pos 0)) (first_within v) (last_within v)

    leaves_by : (extent : ℕ) (below above : Bool) → int_lt (least ranges sum) (pos 0) ≡ below → int_le (pos extent) (greatest ranges sum) ≡ above → (below || above) ≡ true → LeavesSomewhere ranges extent sum
    leaves_by extent true above low high leaves = (low_point, low_inside, inl (subst (λ x. x <ℤ pos 0) (sym least_met) (grind (arith, ints, low))))
    leaves_by extent false true low high leaves = (high_point, high_inside, inr (subst (λ x. pos extent ≤ℤ x) (sym greatest_met) (grind (arith, ints, high))))
    leaves_by extent false false low high leaves = absurd cc

    leaves_at : (extent : ℕ) → LeavesSomewhere ranges extent sum → (int_lt (least ranges sum) (pos 0) || int_le (pos extent) (greatest ranges sum)) ≡ true
    leaves_at extent somewhere = elim somewhere.2 [
      | inl low ↦ (let bound = least_below somewhere.0 somewhere.1 in
          let e : int_lt (least ranges sum) (pos 0) ≡ true = grind (arith, ints) in ap (λ b. b || int_le (pos extent) (greatest ranges sum)) e)
      | inr high ↦ (let bound = greatest_above somewhere.0 somewhere.1 in
          let e : int_le (pos extent) (greatest ranges sum) ≡ true = grind (arith, ints) in ap (λ b. int_lt (least ranges sum) (pos 0) || b) e ∙ or_true (int_lt (least ranges sum) (pos 0)))
    ]

-- over a box that is not empty a subscript leaves its extent exactly where it does at some point
pub leaves_at_points : LeavesAtPoints
unfolding leaves_extent
leaves_at_points ranges extent sum some =
    (λ leaves. leaves_by ranges sum some extent (int_lt (least ranges sum) (pos 0)) (int_le (pos extent) (greatest ranges sum)) refl refl leaves, leaves_at ranges sum some extent)
