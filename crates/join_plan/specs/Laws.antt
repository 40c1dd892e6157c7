-- What the scheduler can be given.
use Rattle.std.specs.Prelude.{◌≡◌, ℕ, ◌≤◌, List, length, false}
use Rattle.std.specs.List.{All, Contains}
use Rattle.bern_base.specs.declared.job.Checked.{Checked}
use Rattle.bern_base.specs.declared.job.Nest.{Nest}
use Rattle.bern_base.specs.declared.limits.TheConstants.{MOST_SIDE, MOST_WEIGHT}
use Rattle.bern_base.specs.declared.shape.Shape.{Shape}
use Rattle.bern_base.specs.declared.shape.Shape.TheVariants as shape
use Rattle.bern_base.specs.declared.stats.Stats.{Stats}
use Rattle.job_model.specs.Accepted.{IsAccepted, IsNestOf}
use Rattle.term_model.specs.declared.term.Term.{Term}
use Rattle.term_model.specs.Plans.{is_both}
use Rattle.term_model.specs.Queries.{IsMeasured}
use Rattle.term_model.specs.Terms.{terms_of}
use Rattle.join_plan.specs.Tasks.{CanSchedule}

-- the outer level of a format of two levels is on rows or on columns, as each job's text says it
abbrev pub HasOuterAxis : Shape → Type 0
HasOuterAxis (shape.DenseDense outer) = is_both outer ≡ false
HasOuterAxis (shape.DensePacked outer) = is_both outer ≡ false
HasOuterAxis (shape.PackedPacked outer) = is_both outer ≡ false
HasOuterAxis other = Unit {0}

-- what was measured of an array is measured of a matrix within the limits of files
pub record IsMeasuredWithin (job : Checked) (stats : List Stats) (number : ℕ) : Type 0 where
  pub measured : IsMeasured job stats number
  pub axis : HasOuterAxis measured.format.shape
  pub rows : measured.matrix.rows ≤ MOST_SIDE
  pub cols : measured.matrix.cols ≤ MOST_SIDE
  pub entries : length measured.matrix.entries ≤ MOST_WEIGHT

-- each term of a nest of an accepted job can be scheduled
abbrev pub TermsCanBeScheduled : Type 0
TermsCanBeScheduled =
    (job : Checked) (nest : Nest) (t : Term) (stats : List Stats) → IsAccepted job → IsNestOf job nest →
    Contains (terms_of job nest.body) t → All (λ ref. IsMeasuredWithin job stats ref.array) t.sparse →
    CanSchedule (record { vars = nest.vars; term = t; stats = stats })
