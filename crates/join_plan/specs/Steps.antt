-- The steps that the scheduler tries.
use Rattle.std.specs.Prelude.{◌≡◌, ℕ, ◌<◌, ◌≤◌}
use Rattle.term_model.specs.declared.plan.PlanStep.{PlanStep}
use Rattle.term_model.specs.declared.plan.PlanStep.TheVariants as step
use Rattle.term_model.specs.Plans.{Query, depth_of}

-- no reference has more than two levels
abbrev pub FewLevels : Query → Type 0
FewLevels q = (r : ℕ) → depth_of q r ≤ 2

-- of variables below four, and of references below four that are there
abbrev pub IsStepOf : ℕ → PlanStep → Type 0
IsStepOf references (step.Range v) = v < 4
IsStepOf references (step.Drive r level v) = (r < 4) × (r < references) × (v < 4)
IsStepOf references (step.DriveFlat r) = (r < 4) × (r < references)
IsStepOf references (step.Merge left left_level right right_level v) =
    (left < 4) × (left < references) × (right < 4) × (right < references) × (v < 4)
