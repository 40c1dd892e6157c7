-- Picking the better plan, one after another.
use Rattle.std.proofs.Common.{◌≡◌, ◌∙◌, ℕ, zero, suc, ◌+◌, ◌*◌, ◌^◌, ◌<◌, ◌≤◌, Bool, true, false, not, cond, List, [], ◌∷◌, ◌++◌, map, Option, Some, None, refl, sym, ap, subst, arith}
use Rattle.std.specs.Prelude.{nat_lt}
use Rattle.std.specs.List.{All, filter, flat_map}
use Rattle.std.proofs.lemmas.Bool.{ltb-true, ltb-false, le-ltb, lt-ltb}
use Rattle.std.proofs.lemmas.List.{append_assoc, append-nil}
use Rattle.std.proofs.lemmas.List.Elements.{All-head, All-tail, filter-append}
use Rattle.std.proofs.lemmas.Grind.{flat_map-append}
use Rattle.placement.specs.PlacementLaws.{range_more}
use Rattle.term_model.specs.declared.plan.PlanStep.{PlanStep}
use Rattle.term_model.specs.Plans.{Known, Query, after_step, candidates, due_searches, is_bound, is_ready, next, plans_from, ready}
use Rattle.join_plan.specs.Costs.{Measures, cost_from, keeps, offers, weight_of}
use Rattle.std.specs.List.{range_with_len}
use Rattle.std.proofs.Math.Nat.{add-zero}
use Rattle.smallvec.specs.SmallVec.{SmallVec}
use Rattle.join_plan.specs.declared.best.Best.{Best}
use Rattle.join_plan.specs.declared.limits.TheConstants.{MOST_SPENT}
use Rattle.join_plan.specs.Picks.{IsCheap, IsSpent, Keeps, Priced, beats, better, following, most_many, pick, priced, seen}

pub pick_more : (f : List PlanStep → Priced) (best : Option Priced) (ps qs : List (List PlanStep)) → pick f best (ps ++ qs) ≡ pick f (pick f best ps) qs
pick_more f best [] qs = refl
pick_more f best (p ∷ ps) qs = pick_more f (better best (f p)) ps qs

pub pick_map : (f : List PlanStep → Priced) (g : List PlanStep → List PlanStep) (best : Option Priced) (ps : List (List PlanStep)) → pick f best (map g ps) ≡ pick (λ p. f (g p)) best ps
pick_map f g best [] = refl
pick_map f g best (p ∷ ps) = pick_map f g (better best (f (g p))) ps

pub pick_same : (f g : List PlanStep → Priced) → ((p : List PlanStep) → f p ≡ g p) → (best : Option Priced) (ps : List (List PlanStep)) → pick f best ps ≡ pick g best ps
pick_same f g same best [] = refl
pick_same f g same best (p ∷ ps) = ap (λ x. pick f (better best x) ps) (same p) ∙ pick_same f g same (better best (g p)) ps

-- what costs no less is not better
beats_less : (n m : ℕ) (best : Option Priced) → n ≤ m → beats n best ≡ false → beats m best ≡ false
beats_less n m None more is = is
beats_less n m (Some best) more is = le-ltb m best.cost (omega (arith, ltb-false n best.cost is, more))

-- where a cost is not better, and all plans cost at least as much, the best stays
pub pick_none : (f : List PlanStep → Priced) (n : ℕ) (best : Option Priced) (ps : List (List PlanStep)) → beats n best ≡ false → ((p : List PlanStep) → n ≤ (f p).cost) → pick f best ps ≡ best
pick_none f n best [] is dear = refl
pick_none f n best (p ∷ ps) is dear =
    ap (λ b. pick f (cond b (Some (f p)) best) ps) (beats_less n (f p).cost best (dear p) is) ∙ pick_none f n best ps is dear

-- ---- steps

pub priced_step : (q : Query) (m : Measures) (k : Known) (many spent : ℕ) (prefix : List PlanStep) (s : PlanStep) (rest : List PlanStep) →
    priced q m k many spent prefix (s ∷ rest)
    ≡ priced q m (next q k s) (many * keeps m k s) (spent + (many * offers m k s + many * keeps m k s * weight_of m (due_searches q (after_step q k s)))) (prefix ++ s ∷ []) rest
priced_step q m k many spent prefix s rest =
    ap (λ c. record { cost = c; steps = prefix ++ s ∷ rest }) (by_sum (many * offers m k s) (many * keeps m k s * weight_of m (due_searches q (after_step q k s))) (cost_from q m (next q k s) (many * keeps m k s) rest))
    ∙ ap (λ ss. record { cost = spent + (many * offers m k s + many * keeps m k s * weight_of m (due_searches q (after_step q k s))) + cost_from q m (next q k s) (many * keeps m k s) rest; steps = ss })
    (sym (append_assoc prefix (s ∷ []) rest))
  where
    by_sum : (a b c : ℕ) → spent + (a + b + c) ≡ spent + (a + b) + c
    by_sum a b c = omega arith

pub following_more : (q : Query) (n : ℕ) (k : Known) (xs ys : List PlanStep) → following q n k (xs ++ ys) ≡ following q n k xs ++ following q n k ys
following_more q n k xs ys =
    ap (flat_map (λ s. map (λ rest. s ∷ rest) (plans_from q n (next q k s)))) (filter-append (is_ready q k) xs ys)
    ∙ flat_map-append (λ s. map (λ rest. s ∷ rest) (plans_from q n (next q k s))) (filter (is_ready q k) xs) (filter (is_ready q k) ys)

-- some steps and then some more
pub pick_following : (f : List PlanStep → Priced) (q : Query) (n : ℕ) (k : Known) (best : Option Priced) (xs ys : List PlanStep) →
    pick f best (following q n k (xs ++ ys)) ≡ pick f (pick f best (following q n k xs)) (following q n k ys)
pick_following f q n k best xs ys = ap (pick f best) (following_more q n k xs ys) ∙ pick_more f best (following q n k xs) (following q n k ys)

-- a step that is not ready leads nowhere
pub not_ready : (q : Query) (n : ℕ) (k : Known) (s : PlanStep) → is_ready q k s ≡ false → following q n k (s ∷ []) ≡ []
not_ready q n k s is = ap (λ b. flat_map (λ t. map (λ rest. t ∷ rest) (plans_from q n (next q k t))) (cond b (s ∷ []) [])) is

-- and one that is ready to the plans that go on after it
pub when_ready : (q : Query) (n : ℕ) (k : Known) (s : PlanStep) → is_ready q k s ≡ true → following q n k (s ∷ []) ≡ map (λ rest. s ∷ rest) (plans_from q n (next q k s))
when_ready q n k s is =
    ap (λ b. flat_map (λ t. map (λ rest. t ∷ rest) (plans_from q n (next q k t))) (cond b (s ∷ []) [])) is
    ∙ append-nil (map (λ rest. s ∷ rest) (plans_from q n (next q k s)))

pub pick_step : (q : Query) (m : Measures) (n : ℕ) (k : Known) (many spent : ℕ) (prefix : List PlanStep) (s : PlanStep) (best : Option Priced) → is_ready q k s ≡ true →
    pick (priced q m (next q k s) (many * keeps m k s) (spent + (many * offers m k s + many * keeps m k s * weight_of m (due_searches q (after_step q k s)))) (prefix ++ s ∷ [])) best (plans_from q n (next q k s))
    ≡ pick (priced q m k many spent prefix) best (following q n k (s ∷ []))
pick_step q m n k many spent prefix s best is =
    pick_same _ _ (λ rest. sym (priced_step q m k many spent prefix s rest)) best (plans_from q n (next q k s))
    ∙ sym (pick_map (priced q m k many spent prefix) (λ rest. s ∷ rest) best (plans_from q n (next q k s)))
    ∙ ap (pick (priced q m k many spent prefix) best) (sym (when_ready q n k s is))

-- where all is bound the steps so far are the one plan
pub plans_bound : (q : Query) (n : ℕ) (k : Known) → is_bound k ≡ true → plans_from q n k ≡ [] ∷ []
plans_bound q zero k is = ap (λ b. cond b ([] ∷ []) []) is
plans_bound q (suc n) k is = ap (λ b. cond b ([] ∷ []) (flat_map (λ s. map (λ rest. s ∷ rest) (plans_from q n (next q k s))) (ready q k))) is

pub plans_none : (q : Query) (k : Known) → is_bound k ≡ false → plans_from q 0 k ≡ []
plans_none q k is = ap (λ b. cond b ([] ∷ []) []) is

-- else they go on with each step that is ready
pub plans_more : (q : Query) (n : ℕ) (k : Known) → is_bound k ≡ false → plans_from q (suc n) k ≡ following q n k (candidates q k)
plans_more q n k is = ap (λ b. cond b ([] ∷ []) (flat_map (λ s. map (λ rest. s ∷ rest) (plans_from q n (next q k s))) (ready q k))) is

-- ---- the search

pub not_false : (b : Bool) → not b ≡ false → b ≡ true
not_false true is = refl
not_false false is = absurd cc

pub keeps_more : (p0 : SmallVec PlanStep) (b0 : Best) (p1 : SmallVec PlanStep) (b1 : Best) (p2 : SmallVec PlanStep) (b2 : Best) → Keeps p0 b0 p1 b1 → Keeps p1 b1 p2 b2 → Keeps p0 b0 p2 b2
keeps_more p0 b0 p1 b1 p2 b2 first second = record {
  steps = second.steps ∙ first.steps;
  prefix_room = second.prefix_room ∙ first.prefix_room;
  best_room = second.best_room ∙ first.best_room;
  cheap = λ small. second.cheap (first.cheap small);
}

-- some steps were tried, and then some more
pub tried_more : (q : Query) (m : Measures) (k : Known) (many spent n : ℕ) (p0 p1 : List PlanStep) (b0 b1 b2 : Option Priced) (xs ys : List PlanStep) → p1 ≡ p0 →
    b1 ≡ pick (priced q m k many spent p0) b0 (following q n k xs) → b2 ≡ pick (priced q m k many spent p1) b1 (following q n k ys) →
    b2 ≡ pick (priced q m k many spent p0) b0 (following q n k (xs ++ ys))
tried_more q m k many spent n p0 p1 b0 b1 b2 xs ys same first second =
    second ∙ ap (λ p. pick (priced q m k many spent p) b1 (following q n k ys)) same
    ∙ ap (λ b. pick (priced q m k many spent p0) b (following q n k ys)) first
    ∙ sym (pick_following (priced q m k many spent p0) q n k b0 xs ys)

-- one line of a table more
pub table_more : {X : Type 0} (g : ℕ → List X) (r : ℕ) → flat_map g (range_with_len 0 (r + 1)) ≡ flat_map g (range_with_len 0 r) ++ g r
table_more g r =
    ap (flat_map g) (range_more r) ∙ flat_map-append g (range_with_len 0 r) (r ∷ []) ∙ ap (λ xs. flat_map g (range_with_len 0 r) ++ xs) (append-nil (g r))

-- what a step takes and leads to, by the numbers that the code has of it
pub step_tried : (q : Query) (m : Measures) (n : ℕ) (k : Known) (many spent : ℕ) (prefix : List PlanStep) (s : PlanStep) (best new : Option Priced) (kept offered weight many_now spent_now : ℕ) (steps : List PlanStep) →
    is_ready q k s ≡ true → kept ≡ keeps m k s → offered ≡ offers m k s → weight ≡ weight_of m (due_searches q (after_step q k s)) → many_now ≡ many * kept →
    spent_now ≡ spent + (many * offered + many * kept * weight) → steps ≡ prefix ++ s ∷ [] →
    new ≡ pick (priced q m (next q k s) many_now spent_now steps) best (plans_from q n (next q k s)) → new ≡ pick (priced q m k many spent prefix) best (following q n k (s ∷ []))
step_tried q m n k many spent prefix s best new kept offered weight many_now spent_now steps ready kept_is offered_is weight_is many_is spent_is steps_are is =
    is ∙ ap (λ x. pick (priced q m (next q k s) x spent_now steps) best (plans_from q n (next q k s))) (many_is ∙ ap (λ x. many * x) kept_is)
    ∙ ap (λ x. pick (priced q m (next q k s) (many * keeps m k s) x steps) best (plans_from q n (next q k s)))
    (spent_is ∙ ap (λ x. spent + (many * x + many * kept * weight)) offered_is ∙ ap (λ x. spent + (many * offers m k s + many * x * weight)) kept_is
    ∙ ap (λ x. spent + (many * offers m k s + many * keeps m k s * x)) weight_is)
    ∙ ap (λ x. pick (priced q m (next q k s) (many * keeps m k s) (spent + (many * offers m k s + many * keeps m k s * weight_of m (due_searches q (after_step q k s)))) x) best (plans_from q n (next q k s))) steps_are
    ∙ pick_step q m n k many spent prefix s best ready

-- where all is bound, and its cost is better, the steps so far are the best plan
pub all_bound : (q : Query) (m : Measures) (n : ℕ) (k : Known) (many spent : ℕ) (prefix : List PlanStep) (best : Option Priced) → is_bound k ≡ true → beats spent best ≡ true →
    Some (record { cost = spent; steps = prefix }) ≡ pick (priced q m k many spent prefix) best (plans_from q n k)
all_bound q m n k many spent prefix best bound beaten =
    ap (λ b. cond b (Some (record { cost = spent; steps = prefix })) best) (sym beaten)
    ∙ ap (λ p. better best p) (ap (λ c. record { cost = c; steps = prefix }) (sym (add-zero spent)) ∙ ap (λ ss. record { cost = spent + 0; steps = ss }) (sym (append-nil prefix)))
    ∙ ap (pick (priced q m k many spent prefix) best) (sym (plans_bound q n k bound))

pub none_better : (q : Query) (m : Measures) (n : ℕ) (k : Known) (many spent : ℕ) (prefix : List PlanStep) (best : Option Priced) → beats spent best ≡ false →
    best ≡ pick (priced q m k many spent prefix) best (plans_from q n k)
none_better q m n k many spent prefix best dear = sym (pick_none (priced q m k many spent prefix) spent best (plans_from q n k) dear (λ rest. omega arith))

pub spent_small : (left many cost : ℕ) → left ≤ 4 → IsSpent left many cost → cost < 2 ^ 127
spent_small left many cost few spent = at left few spent.total
  where
    at : (n : ℕ) → n ≤ 4 → cost ≤ MOST_SPENT * most_many n → cost < 2 ^ 127
    at zero few is = omega (arith, is)
    at (suc zero) few is = omega (arith, is)
    at (suc (suc zero)) few is = omega (arith, is)
    at (suc (suc (suc zero))) few is = omega (arith, is)
    at (suc (suc (suc (suc zero)))) few is = omega (arith, is)
    at (suc (suc (suc (suc (suc n))))) few is = absurd (omega (arith, few))
