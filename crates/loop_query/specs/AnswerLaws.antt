-- Which points a rank visits for a term.
use Rattle.std.specs.Prelude.{◌≡◌, ◌↔◌, ℕ, List, ℤ, true}
use Rattle.std.specs.List.{Contains}
use Rattle.bern_base.specs.declared.job.Checked.{Checked}
use Rattle.bern_base.specs.declared.job.Nest.{Nest}
use Rattle.job_model.specs.Points.{points}
use Rattle.term_model.specs.declared.term.Term.{Term}
use Rattle.term_model.specs.Activity.{Entries, is_active}
use Rattle.term_model.specs.Answers.{Places, answer, home_of}

-- a point of the nest with this home at which the term is active
pub record IsAnswer (job : Checked) (entries : Entries) (places : Places) (nest : Nest) (t : Term) (rank : ℕ) (point : List ℤ) : Type 0 where
  pub visited : Contains (points nest) point
  pub home : home_of job places nest point ≡ rank
  pub active : is_active job entries point t ≡ true

abbrev pub AnswersAreActivePoints : Type 0
AnswersAreActivePoints = (job : Checked) (entries : Entries) (places : Places) (nest : Nest) (t : Term) (rank : ℕ) (point : List ℤ) →
    Contains (answer job entries places nest t rank) point ↔ IsAnswer job entries places nest t rank point
