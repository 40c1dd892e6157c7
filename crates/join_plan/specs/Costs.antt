-- The cost of a plan: about how many steps its walk takes, from what was measured of the whole arrays.
use Rattle.std.specs.Prelude.{ℕ, ◌+◌, ◌*◌, List, [], ◌∷◌, Option, Some, None, ℤ, ◌-ℤ◌, min, false, slice_get, slice_index_or}
use Rattle.std.specs.List.{sum_by}
use Rattle.bern_base.specs.declared.axes.Axis.TheVariants as axis
use Rattle.bern_base.specs.declared.job.Ref.{Ref}
use Rattle.bern_base.specs.declared.job.Span.{Span}
use Rattle.bern_base.specs.declared.stats.LevelStat.{LevelStat}
use Rattle.bern_base.specs.declared.stats.Stats.{Stats}
use Rattle.job_model.specs.Points.{bounds_at, natural}
use Rattle.term_model.specs.declared.plan.PlanStep.{PlanStep}
use Rattle.term_model.specs.declared.plan.PlanStep.TheVariants as step
use Rattle.term_model.specs.declared.term.Term.{Term}
use Rattle.term_model.specs.Plans.{Known, Query, Search, after_step, due_searches, first_known, next, start}

-- what a cost is made from: how many values the loop of a variable has, and what was measured of a level of a sparse reference
pub record Measures : Type 0 where
  pub size : ℕ → ℕ
  pub stat : ℕ → ℕ → LevelStat

abbrev pub estimate_of : Measures → ℕ → ℕ → ℕ
estimate_of m r level = (m.stat r level).estimate

-- how many indices a step passes below one binding
abbrev pub offers : Measures → Known → PlanStep → ℕ
offers m k (step.Range v) = m.size v
offers m k (step.Drive r level v) = estimate_of m r level
offers m k (step.DriveFlat r) = estimate_of m r (k.located r)
offers m k (step.Merge left left_level right right_level v) = estimate_of m left left_level + estimate_of m right right_level

-- how many bindings it keeps of one: a merge keeps the indices that both levels may have
abbrev pub keeps : Measures → Known → PlanStep → ℕ
keeps m k (step.Range v) = m.size v
keeps m k (step.Drive r level v) = estimate_of m r level
keeps m k (step.DriveFlat r) = estimate_of m r (k.located r)
keeps m k (step.Merge left left_level right right_level v) = min (estimate_of m left left_level) (estimate_of m right right_level)

-- what searches take, one after the other
abbrev pub weight_of : Measures → List Search → ℕ
weight_of m searches = sum_by (λ s. (m.stat s.reference s.level).weight) searches

-- the steps from one on, where so many bindings came to it: each is offered indices, and the searches are made for each that is kept
abbrev pub cost_from : Query → Measures → Known → ℕ → List PlanStep → ℕ
cost_from q m k many [] = 0
cost_from q m k many (s ∷ rest) =
    many * offers m k s + many * keeps m k s * weight_of m (due_searches q (after_step q k s))
    + cost_from q m (next q k s) (many * keeps m k s) rest

-- the searches before the first step, and then the steps from one binding on
abbrev pub cost : Query → Measures → List PlanStep → ℕ
cost q m steps = weight_of m (due_searches q (first_known q)) + cost_from q m (start q) 1 steps

-- ---- of a term

-- what stands for a level that was not measured
abbrev pub no_stat : LevelStat
no_stat = record { axis = axis.Both; ordered = false; estimate = 0; weight = 0 }

abbrev pub levels_in : Option Stats → List LevelStat
levels_in None = []
levels_in (Some stats) = stats.levels

-- the levels that were measured of an array, by its number
abbrev pub stats_at : List Stats → ℕ → List LevelStat
stats_at stats array = levels_in (slice_get stats array)

-- those of the array of a reference
abbrev pub stats_by : List Stats → Option Ref → List LevelStat
stats_by stats None = []
stats_by stats (Some ref) = stats_at stats ref.array

abbrev pub stats_of : List Stats → Term → ℕ → List LevelStat
stats_of stats t r = stats_by stats (slice_get t.sparse r)

-- how many values a loop has
abbrev pub size_of : ℤ × ℤ → ℕ
size_of bounds = natural (bounds.1 -ℤ bounds.0)

abbrev pub measures : List Span → Term → List Stats → Measures
measures vars t stats = record {
  size = λ v. size_of (bounds_at vars v);
  stat = λ r level. slice_index_or (stats_of stats t r) level no_stat;
}
