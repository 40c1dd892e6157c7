-- The better plan, one after another, is the first one of least cost.
use Rattle.std.proofs.Common.{◌≡◌, ◌∙◌, ℕ, zero, suc, ◌+◌, ◌-◌, ◌<◌, ◌≤◌, Bool, true, false, not, cond, List, [], ◌∷◌, ◌++◌, length, drop, get_or, Option, Some, None, refl, sym, ap, subst, arith}
use Rattle.std.specs.Prelude.{nat_lt}
use Rattle.std.specs.List.{All, Contains, range_with_len}
use Rattle.std.proofs.lemmas.Bool.{lt-ltb, ltb-true, ltb-false}
use Rattle.std.proofs.lemmas.List.{append_assoc, append-nil}
use Rattle.std.proofs.lemmas.List.Elements.{All-append, All-cons, All-contains, All-nil, Contains-append_right}
use Rattle.term_model.specs.declared.plan.PlanStep.{PlanStep}
use Rattle.term_model.specs.Plans.{Query, plans, start, first_known, due_searches}
use Rattle.loop_query.proofs.PlanLemmas.{some_plan_is_listed}
use Rattle.join_plan.specs.Costs.{Measures, cost, weight_of}
use Rattle.join_plan.specs.Least.{IsFirstOfLeast}
use Rattle.std.specs.Option.{option_map, option_map_or}
use Rattle.join_plan.specs.Picks.{Priced, better, pick, priced, seen_by}
use Rattle.join_plan.specs.Progress.{Marks}

-- the first one of least cost of a list
record IsFirst (g : List PlanStep → ℕ) (all : List (List PlanStep)) (p : Priced) : Type 0 where
  before : List (List PlanStep)
  later : List (List PlanStep)
  pub listed : all ≡ before ++ p.steps ∷ later
  pub price : p.cost ≡ g p.steps
  pub dearer : All (λ other. p.cost < g other) before
  pub least : All (λ other. p.cost ≤ g other) later

by_cost : (List PlanStep → ℕ) → List PlanStep → Priced
by_cost g steps = record { cost = g steps; steps = steps }

no_less : (g : List PlanStep → ℕ) (n : ℕ) (xs : List (List PlanStep)) (m : ℕ) → n < m → All (λ other. m ≤ g other) xs → All (λ other. n < g other) xs
no_less g n xs m less all = λ k d below. omega (arith, less, all k d below)

one_more : (g : List PlanStep → ℕ) (all : List (List PlanStep)) (p : Priced) (x : List PlanStep) (b : Bool) → nat_lt (g x) p.cost ≡ b → IsFirst g all p → IsFirst g (all ++ x ∷ []) (cond b (by_cost g x) p)
unfolding by_cost
one_more g all p x true less first = record {
  before = all;
  later = [];
  listed = refl;
  price = refl;
  dearer = subst (All (λ other. g x < g other)) (sym first.listed)
      (All-append (λ other. g x < g other) first.before (p.steps ∷ first.later)
      (λ k d below. omega (arith, ltb-true (g x) p.cost less, first.dearer k d below))
      (All-cons (λ other. g x < g other) p.steps first.later (omega (arith, ltb-true (g x) p.cost less, first.price))
      (no_less g (g x) first.later p.cost (ltb-true (g x) p.cost less) first.least)));
  least = All-nil (λ other. g x ≤ g other);
}
one_more g all p x false more first = record {
  before = first.before;
  later = first.later ++ x ∷ [];
  listed = ap (λ xs. xs ++ x ∷ []) first.listed ∙ append_assoc first.before (p.steps ∷ first.later) (x ∷ []);
  price = first.price;
  dearer = first.dearer;
  least = All-append (λ other. p.cost ≤ g other) first.later (x ∷ []) first.least
      (All-cons (λ other. p.cost ≤ g other) x [] (ltb-false (g x) p.cost more) (All-nil (λ other. p.cost ≤ g other)));
}

-- going on from the first one of least cost so far
picked_on : (g : List PlanStep → ℕ) (all : List (List PlanStep)) (p : Priced) (ps : List (List PlanStep)) → IsFirst g all p → (found : Priced) × (pick (by_cost g) (Some p) ps ≡ Some found) × IsFirst g (all ++ ps) found
unfolding by_cost
picked_on g all p [] first = (p, refl, subst (λ xs. IsFirst g xs p) (sym (append-nil all)) first)
picked_on g all p (x ∷ ps) first = at (nat_lt (g x) p.cost) refl (λ next is. picked_on g (all ++ x ∷ []) next ps is)
  where
    IsFound : Option Priced → Type 0
    IsFound next = (found : Priced) × (pick (by_cost g) next ps ≡ Some found) × IsFirst g (all ++ x ∷ ps) found

    after : (next : Priced) → (found : Priced) × (pick (by_cost g) (Some next) ps ≡ Some found) × IsFirst g ((all ++ x ∷ []) ++ ps) found → IsFound (Some next)
    after next (found, is, least) = (found, is, subst (λ xs. IsFirst g xs found) (append_assoc all (x ∷ []) ps) least)

    at : (b : Bool) → nat_lt (g x) p.cost ≡ b →
        ((next : Priced) → IsFirst g (all ++ x ∷ []) next → (found : Priced) × (pick (by_cost g) (Some next) ps ≡ Some found) × IsFirst g ((all ++ x ∷ []) ++ ps) found) →
        IsFound (cond b (Some (by_cost g x)) (Some p))
    at true less rest = after (by_cost g x) (rest (by_cost g x) (one_more g all p x true less first))
    at false more rest = after p (rest p (one_more g all p x false more first))

one_is : (g : List PlanStep → ℕ) (x : List PlanStep) → IsFirst g (x ∷ []) (by_cost g x)
unfolding by_cost
one_is g x = record { before = []; later = []; listed = refl; price = refl; dearer = All-nil (λ other. g x < g other); least = All-nil (λ other. g x ≤ g other) }

first_picked : (g : List PlanStep → ℕ) (ps : List (List PlanStep)) → 0 < length ps → (found : Priced) × (pick (by_cost g) None ps ≡ Some found) × IsFirst g ps found
first_picked g [] some = absurd (omega (arith, some))
first_picked g (x ∷ ps) some = picked_on g (x ∷ []) (by_cost g x) ps (one_is g x)

-- what is picked from all plans of a term
pub least_of : (q : Query) (m : Measures) (best : Option Priced) → best ≡ pick (priced q m (start q) 1 (weight_of m (due_searches q (first_known q))) []) None (plans q) →
    (found : Priced) × (best ≡ Some found) × IsFirstOfLeast q m found.steps found.cost
unfolding by_cost
least_of q m best is =
    let (found, picked, first) = first_picked (cost q m) (plans q) (some_plan_is_listed q) in
    (found, is ∙ picked, record { before = first.before; later = first.later; listed = first.listed; price = first.price; dearer = first.dearer; least = first.least })

-- there is such a plan
pub some_least : (q : Query) (m : Measures) → (found : Priced) × IsFirstOfLeast q m found.steps found.cost
some_least q m =
    let (found, is, least) = least_of q m (pick (priced q m (start q) 1 (weight_of m (due_searches q (first_known q))) []) None (plans q)) refl in (found, least)

first_in : {X : Type 0} (x : X) (xs : List X) → Contains (x ∷ xs) x
first_in x xs = (0, omega arith, refl)

-- a first one of least cost that is listed before another one: this one costs no less, and more than that
apart : {X : Type 0} (g : X → ℕ) (c l k : List X) (s t x : X) → s ∷ l ≡ x ∷ c ++ t ∷ k → All (λ o. g s ≤ g o) l → All (λ o. g t < g o) (x ∷ c) → ⊥
apart g c l k s t x same least dearer =
    let head : s ≡ x = ap (λ xs. get_or xs 0 s) same in
    let rest : l ≡ c ++ t ∷ k = ap (drop 1) same in
    let more : g s ≤ g t = All-contains (λ o. g s ≤ g o) l t least (subst (λ xs. Contains xs t) (sym rest) (Contains-append_right c (t ∷ k) t (first_in t k))) in
    let less : g t < g x = dearer 0 x (omega arith) in
    omega (arith, more, less, ap g head)

-- and there is one alone
one_of : {X : Type 0} (g : X → ℕ) (b c l k : List X) (s t : X) → b ++ s ∷ l ≡ c ++ t ∷ k → All (λ o. g s < g o) b → All (λ o. g s ≤ g o) l → All (λ o. g t < g o) c → All (λ o. g t ≤ g o) k → s ≡ t
one_of g [] [] l k s t same dearer least dearer_too least_too = ap (λ xs. get_or xs 0 s) same
one_of g [] (x ∷ c) l k s t same dearer least dearer_too least_too = absurd (apart g c l k s t x same least dearer_too)
one_of g (x ∷ b) [] l k s t same dearer least dearer_too least_too = absurd (apart g b k l t s x (sym same) least_too dearer)
one_of g (x ∷ b) (y ∷ c) l k s t same dearer least dearer_too least_too =
    one_of g b c l k s t (ap (drop 1) same) (λ i d below. dearer (suc i) d (omega (arith, below))) least (λ i d below. dearer_too (suc i) d (omega (arith, below))) least_too

pub one_least : (q : Query) (m : Measures) (s t : List PlanStep) (a b : ℕ) → IsFirstOfLeast q m s a → IsFirstOfLeast q m t b → (s ≡ t) × (a ≡ b)
one_least q m s t a b first second =
    let same : s ≡ t =
    one_of (cost q m) first.before second.before first.later second.later s t (sym first.listed ∙ second.listed)
    (subst (λ n. All (λ o. n < cost q m o) first.before) first.price first.dearer)
    (subst (λ n. All (λ o. n ≤ cost q m o) first.later) first.price first.least)
    (subst (λ n. All (λ o. n < cost q m o) second.before) second.price second.dearer)
    (subst (λ n. All (λ o. n ≤ cost q m o) second.later) second.price second.least) in
    (same, first.price ∙ ap (cost q m) same ∙ sym second.price)

-- ---- before the first step

-- the variables that the nest does not have are bound
all_free : (n : ℕ) → 4 < n → Marks [] (not (nat_lt 0 n) ∷ not (nat_lt 1 n) ∷ not (nat_lt 2 n) ∷ not (nat_lt 3 n) ∷ [])
all_free n many zero below = ap not (lt-ltb 0 n (omega (arith, many)))
all_free n many (suc zero) below = ap not (lt-ltb 1 n (omega (arith, many)))
all_free n many (suc (suc zero)) below = ap not (lt-ltb 2 n (omega (arith, many)))
all_free n many (suc (suc (suc zero))) below = ap not (lt-ltb 3 n (omega (arith, many)))
all_free n many (suc (suc (suc (suc v)))) below = absurd (omega (arith, below))

pub first_marks : (n : ℕ) → Marks (range_with_len n (4 - n)) (not (nat_lt 0 n) ∷ not (nat_lt 1 n) ∷ not (nat_lt 2 n) ∷ not (nat_lt 3 n) ∷ [])
first_marks zero zero below = refl
first_marks zero (suc zero) below = refl
first_marks zero (suc (suc zero)) below = refl
first_marks zero (suc (suc (suc zero))) below = refl
first_marks zero (suc (suc (suc (suc v)))) below = absurd (omega (arith, below))
first_marks (suc zero) zero below = refl
first_marks (suc zero) (suc zero) below = refl
first_marks (suc zero) (suc (suc zero)) below = refl
first_marks (suc zero) (suc (suc (suc zero))) below = refl
first_marks (suc zero) (suc (suc (suc (suc v)))) below = absurd (omega (arith, below))
first_marks (suc (suc zero)) zero below = refl
first_marks (suc (suc zero)) (suc zero) below = refl
first_marks (suc (suc zero)) (suc (suc zero)) below = refl
first_marks (suc (suc zero)) (suc (suc (suc zero))) below = refl
first_marks (suc (suc zero)) (suc (suc (suc (suc v)))) below = absurd (omega (arith, below))
first_marks (suc (suc (suc zero))) zero below = refl
first_marks (suc (suc (suc zero))) (suc zero) below = refl
first_marks (suc (suc (suc zero))) (suc (suc zero)) below = refl
first_marks (suc (suc (suc zero))) (suc (suc (suc zero))) below = refl
first_marks (suc (suc (suc zero))) (suc (suc (suc (suc v)))) below = absurd (omega (arith, below))
first_marks (suc (suc (suc (suc zero)))) zero below = refl
first_marks (suc (suc (suc (suc zero)))) (suc zero) below = refl
first_marks (suc (suc (suc (suc zero)))) (suc (suc zero)) below = refl
first_marks (suc (suc (suc (suc zero)))) (suc (suc (suc zero))) below = refl
first_marks (suc (suc (suc (suc zero)))) (suc (suc (suc (suc v)))) below = absurd (omega (arith, below))
first_marks (suc (suc (suc (suc (suc n))))) v below = subst (λ k. Marks (range_with_len (suc (suc (suc (suc (suc n))))) k)
    (not (nat_lt 0 (suc (suc (suc (suc (suc n)))))) ∷ not (nat_lt 1 (suc (suc (suc (suc (suc n)))))) ∷ not (nat_lt 2 (suc (suc (suc (suc (suc n)))))) ∷ not (nat_lt 3 (suc (suc (suc (suc (suc n)))))) ∷ [])) (sym none) (all_free (suc (suc (suc (suc (suc n))))) (omega arith)) v below
  where
    none : 4 - suc (suc (suc (suc (suc n)))) ≡ 0
    none = omega arith

-- what the code keeps of a plan is its cost and its steps
pub found_is : (cost : Option ℕ) (steps : List PlanStep) (found : Priced) → seen_by cost steps ≡ Some found → (cost ≡ Some found.cost) × (steps ≡ found.steps)
found_is None steps found is = absurd cc
found_is (Some n) steps found is = (ap (option_map (λ p. p.cost)) is, ap (λ p. option_map_or (λ x. x.steps) p []) is)
