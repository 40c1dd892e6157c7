-- The plans of accepted jobs.
use Rattle.std.specs.Prelude.{◌≡◌, ◌≤◌, List, length}
use Rattle.std.specs.List.{All}
use Rattle.bern_base.specs.declared.job.Checked.{Checked}
use Rattle.bern_base.specs.declared.limits.TheConstants.{MOST_SIDE, MOST_WEIGHT}
use Rattle.bern_base.specs.declared.matrix.Matrix.{Matrix}
use Rattle.bern_base.specs.declared.stats.Stats.{Stats}
use Rattle.job_model.specs.Accepted.{IsAccepted}
use Rattle.join_plan.specs.Laws.{HasOuterAxis}
use Rattle.term_model.specs.declared.plan.Plans.{Plans}
use Rattle.term_model.specs.Queries.{ArePlansOf}
use Rattle.job_plans.specs.Least.{AreLeast, CanPlan, measured}

-- a matrix within the limits of files
pub record IsWithin (m : Matrix) : Type 0 where
  pub rows : m.rows ≤ MOST_SIDE
  pub cols : m.cols ≤ MOST_SIDE
  pub entries : length m.entries ≤ MOST_WEIGHT

-- an accepted job with a matrix for each array; the outer levels of its formats are on rows or columns, as each job's text says them
pub record IsPlannable (job : Checked) (ms : List Matrix) : Type 0 where
  pub accepted : IsAccepted job
  pub axes : All (λ f. HasOuterAxis f.shape) job.formats
  pub count : length ms ≡ length job.arrays
  pub within : All IsWithin ms

-- all terms of all nests can be scheduled by what is measured of the matrices
abbrev pub AcceptedJobsCanBePlanned : Type 0
AcceptedJobsCanBePlanned = (job : Checked) (ms : List Matrix) → IsPlannable job ms → All (CanPlan job (measured job ms)) job.nests

-- plans of least cost are plans of the terms by the formats of the job, so what runs any plans runs these
abbrev pub LeastPlansArePlans : Type 0
LeastPlansArePlans =
    (job : Checked) (ms : List Matrix) (plans : Plans) → IsPlannable job ms → AreLeast job (measured job ms) plans →
    ArePlansOf job plans

-- a job has plans of least cost, and one list of them alone, whatever was measured
abbrev pub PlansAreOne : Type 0
PlansAreOne =
    (job : Checked) (stats : List Stats) →
    (plans : Plans) × AreLeast job stats plans × ((other : Plans) → AreLeast job stats other → other ≡ plans)
