-- What a part of the search is given, and what it does: of some plans it picks the best, one after another, from the best so far on.
use Rattle.std.specs.Prelude.{◌≡◌, ℕ, ◌≤◌, List}
use Rattle.std.specs.List.{flat_map}
use Rattle.smallvec.specs.SmallVec.{SmallVec}
use Rattle.term_model.specs.declared.plan.PlanStep.{PlanStep}
use Rattle.term_model.specs.Plans.{Known, drives, merges, places}
use Rattle.join_plan.specs.declared.best.Best.{Best}
use Rattle.join_plan.specs.declared.progress.Progress.{Progress}
use Rattle.join_plan.specs.declared.spent.Spent.{Spent}
use Rattle.join_plan.specs.Picks.{HasRoom, IsSpent, following, pick, priced, seen}
use Rattle.join_plan.specs.Progress.{Knows}
use Rattle.join_plan.specs.Steps.{FewLevels}
use Rattle.join_plan.specs.Tasks.{Task, measures_in, query_in}

-- so many steps more can be tried: they have room, and what was spent for those of the prefix is within its bound
pub record CanTry (task : Task) (left : ℕ) (spent : Spent) (prefix : SmallVec PlanStep) (best : Best) : Type 0 where
  pub few : left ≤ 4
  pub levels : FewLevels (query_in task)
  pub room : HasRoom prefix best left
  pub bounded : IsSpent left spent.many spent.cost

-- after the steps of the prefix, for which so much was spent
abbrev pub PicksAfter : Task → Known → Spent → SmallVec PlanStep → Best → Best → List (List PlanStep) → Type 0
PicksAfter task k spent prefix old new plans =
    seen new ≡ pick (priced (query_in task) (measures_in task) k spent.many spent.cost prefix.items) (seen old) plans

-- the same of what a plan has come to, whichever it is that the progress stands for
abbrev pub TakesBest : Task → Progress → Spent → SmallVec PlanStep → Best → Best → (Known → List (List PlanStep)) → Type 0
TakesBest task progress spent prefix old new plans = (k : Known) → Knows k progress → PicksAfter task k spent prefix old new (plans k)

-- the plans that begin with one of these steps and have at most so many after it
abbrev pub plans_by : Task → ℕ → Known → List PlanStep → List (List PlanStep)
plans_by task left k steps = following (query_in task) left k steps

-- the loops over the next level of each reference
abbrev pub all_drives : Task → Known → List PlanStep
all_drives task k = flat_map (drives k) (places (query_in task))

-- those over the next levels of a reference and of each other one
abbrev pub merges_with : Task → Known → ℕ → List PlanStep
merges_with task k r = flat_map (merges k r) (places (query_in task))

abbrev pub all_merges : Task → Known → List PlanStep
all_merges task k = flat_map (merges_with task k) (places (query_in task))
