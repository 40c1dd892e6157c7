-- The plans of a job: for each term of each nest the plan of least cost, by what is measured of the matrices of the arrays.
use Rattle.std.specs.Prelude.{◌≡◌, ℕ, List, [], Option, Some, None, length, map, slice_get}
use Rattle.std.specs.List.{All, AllZip, range_with_len}
use Rattle.bern_base.specs.declared.job.ArrayDecl.{ArrayDecl}
use Rattle.bern_base.specs.declared.job.Checked.{Checked}
use Rattle.bern_base.specs.declared.job.FormatDecl.{FormatDecl}
use Rattle.bern_base.specs.declared.job.Nest.{Nest}
use Rattle.bern_base.specs.declared.matrix.Matrix.{Matrix}
use Rattle.bern_base.specs.declared.stats.Stats.{Stats}
use Rattle.format_model.specs.Estimates.{stats_of}
use Rattle.join_plan.specs.Costs.{measures}
use Rattle.join_plan.specs.Least.{IsFirstOfLeast}
use Rattle.join_plan.specs.Tasks.{CanSchedule}
use Rattle.term_model.specs.declared.plan.PlannedTerm.{PlannedTerm}
use Rattle.term_model.specs.declared.plan.Plans.{Plans}
use Rattle.term_model.specs.Queries.{levels_by, query}
use Rattle.term_model.specs.Terms.{terms_of}

-- ---- what is measured

-- of a matrix in a format; where there is no format there are no levels
abbrev pub measured_in : Option FormatDecl → Matrix → Stats
measured_in None m = record { levels = [] }
measured_in (Some format) m = record { levels = stats_of format.shape m }

abbrev pub measured_as : List FormatDecl → Option ArrayDecl → Option Matrix → Stats
measured_as formats None m = record { levels = [] }
measured_as formats (Some array) None = record { levels = [] }
measured_as formats (Some array) (Some m) = measured_in (slice_get formats array.format) m

-- of each array, by its matrix
abbrev pub measured_at : Checked → List Matrix → ℕ → Stats
measured_at job ms number = measured_as job.formats (slice_get job.arrays number) (slice_get ms number)

abbrev pub measured : Checked → List Matrix → List Stats
measured job ms = map (measured_at job ms) (range_with_len 0 (length job.arrays))

-- ---- plans

-- a term has the first plan of least cost of its list, and this cost
abbrev pub IsScheduled : List Stats → Nest → PlannedTerm → Type 0
IsScheduled stats nest planned =
    IsFirstOfLeast (query (levels_by stats) nest planned.term) (measures nest.vars planned.term stats) planned.plan.steps planned.cost

-- the terms of a nest in order, each so
pub record AreScheduled (job : Checked) (stats : List Stats) (nest : Nest) (planned : List PlannedTerm) : Type 0 where
  pub terms : map (λ p. p.term) planned ≡ terms_of job nest.body
  pub least : All (IsScheduled stats nest) planned

-- and so for each nest of a job
abbrev pub AreLeast : Checked → List Stats → Plans → Type 0
AreLeast job stats plans = AllZip (AreScheduled job stats) job.nests plans.nests

-- all terms of a nest can be scheduled
abbrev pub CanPlan : Checked → List Stats → Nest → Type 0
CanPlan job stats nest = All (λ t. CanSchedule (record { vars = nest.vars; term = t; stats = stats })) (terms_of job nest.body)
