-- Keeping the better of two plans, one plan after another.
use Rattle.std.specs.Prelude.{◌≡◌, ℕ, zero, suc, ◌+◌, ◌-◌, ◌*◌, ◌^◌, ◌<◌, ◌≤◌, nat_lt, Bool, true, if◌then◌else◌, List, [], ◌∷◌, ◌++◌, length, map, Option, Some, None}
use Rattle.std.specs.List.{filter, flat_map}
use Rattle.bern_base.specs.declared.limits.TheConstants.{MOST_WEIGHT}
use Rattle.term_model.specs.declared.plan.PlanStep.{PlanStep}
use Rattle.term_model.specs.Plans.{Known, Query, is_ready, next, plans_from}
use Rattle.smallvec.specs.SmallVec.{SmallVec}
use Rattle.join_plan.specs.Costs.{Measures, cost_from}
use Rattle.join_plan.specs.declared.best.Best.{Best}
use Rattle.join_plan.specs.declared.limits.TheConstants.{MOST_SPENT}

-- the steps of a plan, and their cost
pub record Priced : Type 0 where
  pub cost : ℕ
  pub steps : List PlanStep

abbrev pub beats : ℕ → Option Priced → Bool
beats n None = true
beats n (Some best) = nat_lt n best.cost

abbrev pub better : Option Priced → Priced → Option Priced
better best p = if beats p.cost best then Some p else best

abbrev pub pick : (List PlanStep → Priced) → Option Priced → List (List PlanStep) → Option Priced
pick f best [] = best
pick f best (p ∷ ps) = pick f (better best (f p)) ps

-- what the code keeps of it
abbrev pub seen_by : Option ℕ → List PlanStep → Option Priced
seen_by None steps = None
seen_by (Some cost) steps = Some (record { cost = cost; steps = steps })

abbrev pub seen : Best → Option Priced
seen best = seen_by best.cost best.steps.items

-- a plan by what it has come to: so much was spent for its first steps, and so many bindings come to the next one
abbrev pub priced : Query → Measures → Known → ℕ → ℕ → List PlanStep → List PlanStep → Priced
priced q m k many spent prefix rest = record { cost = spent + cost_from q m k many rest; steps = prefix ++ rest }

-- what some steps lead to, those that are ready, each with all ways to go on
abbrev pub following : Query → ℕ → Known → List PlanStep → List (List PlanStep)
following q n k steps = flat_map (λ s. map (λ rest. s ∷ rest) (plans_from q n (next q k s))) (filter (is_ready q k) steps)

-- ---- bounds

-- the most bindings after all but so many of four steps
abbrev pub most_many : ℕ → ℕ
most_many left = MOST_WEIGHT ^ (4 - left)

-- what was spent for the first steps, and how many bindings come to the next one, stay below 2^124
pub record IsSpent (left many cost : ℕ) : Type 0 where
  pub bindings : many ≤ most_many left
  pub total : cost ≤ MOST_SPENT * most_many left

-- a plan of cost below 2^127, or none
abbrev pub IsCheap : Option Priced → Type 0
IsCheap None = Unit {0}
IsCheap (Some best) = best.cost < 2 ^ 127

-- ---- what the search is lent: the steps that are tried, and the best plan so far

-- both have room for four steps, and so many more can be tried
pub record HasRoom (prefix : SmallVec PlanStep) (best : Best) (more : ℕ) : Type 0 where
  pub prefix_room : prefix.capacity ≡ 4
  pub best_room : best.steps.capacity ≡ 4
  pub few : length prefix.items + more ≤ 4

-- what stays: the steps that were tried before, the room, and that costs are small
pub record Keeps (before : SmallVec PlanStep) (old : Best) (now : SmallVec PlanStep) (new : Best) : Type 0 where
  pub steps : now.items ≡ before.items
  pub prefix_room : now.capacity ≡ before.capacity
  pub best_room : new.steps.capacity ≡ old.steps.capacity
  pub cheap : IsCheap (seen old) → IsCheap (seen new)
