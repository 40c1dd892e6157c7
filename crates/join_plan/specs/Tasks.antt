-- What the scheduler is given: the variables of a nest, one of its terms, and what was measured of the arrays.
use Rattle.std.specs.Prelude.{◌≡◌, ℕ, ◌<◌, ◌≤◌, List, length, map, replicate}
use Rattle.std.specs.List.{All}
use Rattle.bern_base.specs.Affine.{AffineForm}
use Rattle.bern_base.specs.declared.axes.Axis.{Axis}
use Rattle.bern_base.specs.declared.axes.Axis.TheVariants as axis
use Rattle.bern_base.specs.declared.job.Span.{Span}
use Rattle.bern_base.specs.declared.limits.TheConstants.{MOST_REFERENCES, MOST_VARIABLES, MOST_WEIGHT}
use Rattle.bern_base.specs.declared.stats.LevelStat.{LevelStat}
use Rattle.bern_base.specs.declared.stats.Stats.{Stats}
use Rattle.job_model.specs.Runnable.{IsNear}
use Rattle.term_model.specs.declared.term.Term.{Term}
use Rattle.term_model.specs.Plans.{Query, SparseRef, depth_of, sparse_at}
use Rattle.term_model.specs.Queries.{levels_by, sparse_ref}
use Rattle.join_plan.specs.Costs.{Measures, measures, stats_of}

pub record Task : Type 0 where
  pub vars : List Span
  pub term : Term
  pub stats : List Stats

abbrev pub query_in : Task → Query
query_in task = record { variables = length task.vars; sparse = map (sparse_ref (levels_by task.stats)) task.term.sparse }

-- a reference once for each of its levels
abbrev pub tries_of : Task → ℕ → List ℕ
tries_of task r = replicate (depth_of (query_in task) r) r

abbrev pub measures_in : Task → Measures
measures_in task = measures task.vars task.term task.stats

abbrev pub form_on : Axis → SparseRef → AffineForm
form_on axis.Row s = s.row
form_on axis.Col s = s.col
form_on axis.Both s = s.row

-- a level of at most 2^24 indices, about, and as many steps of a search
pub record IsModest (stat : LevelStat) : Type 0 where
  pub estimate : stat.estimate ≤ MOST_WEIGHT
  pub weight : stat.weight ≤ MOST_WEIGHT

-- at most two such levels
abbrev pub AreSlight : List LevelStat → Type 0
AreSlight stats = (length stats ≤ 2) × All IsModest stats

-- as the limits of jobs and files have it: few variables, references and levels, and bounds of loops within their limit
pub record CanSchedule (task : Task) : Type 0 where
  pub variables : length task.vars ≤ MOST_VARIABLES
  pub references : length task.term.sparse ≤ MOST_REFERENCES
  pub near : All IsNear task.vars
  pub levels : (r : ℕ) → AreSlight (stats_of task.stats task.term r)
