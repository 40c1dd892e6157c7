-- The first plan of least cost.
use Rattle.std.specs.Prelude.{◌≡◌, ℕ, ◌<◌, ◌≤◌, List, ◌∷◌, ◌++◌}
use Rattle.std.specs.List.{All}
use Rattle.term_model.specs.declared.plan.PlanStep.{PlanStep}
use Rattle.term_model.specs.Plans.{Query, plans}
use Rattle.join_plan.specs.Costs.{Measures, cost}

-- it is listed, the plans listed before it cost more, and those after it no less
pub record IsFirstOfLeast (q : Query) (m : Measures) (steps : List PlanStep) (total : ℕ) : Type 0 where
  pub before : List (List PlanStep)
  pub later : List (List PlanStep)
  pub listed : plans q ≡ before ++ steps ∷ later
  pub price : total ≡ cost q m steps
  pub dearer : All (λ other. total < cost q m other) before
  pub least : All (λ other. total ≤ cost q m other) later
