-- One rank that owns all.
use Rattle.std.specs.Prelude.{◌≡◌, ℕ, []}
use Rattle.std.specs.Prelude.{slice_index_or}
use Rattle.bern_base.specs.declared.job.Checked.{Checked}
use Rattle.bern_base.specs.declared.job.Nest.{Nest}
use Rattle.job_model.specs.Points.{points}
use Rattle.job_model.specs.State.{State}
use Rattle.pass_model.specs.Interior.{boundary_points, interior_points}
use Rattle.pass_model.specs.Sums.{PassesSum, body_sum, home_points, interior_sum}
use Rattle.placement.specs.Cyclic.{cyclic_triples}
use Rattle.placement.specs.Placement.{owner_of}
use Rattle.term_model.specs.declared.term.Term.{Term}
use Rattle.term_model.specs.Activity.{Entries, SparseHoldZeros}
use Rattle.term_model.specs.Answers.{Places, answer}
use Rattle.term_model.specs.Terms.{terms_of}

-- rank 0 owns every index of every place line
abbrev pub OwnsAll : Places → Type 0
OwnsAll places = (number index : ℕ) → owner_of (slice_index_or places number []) index ≡ 0

-- where blocks are dealt to one rank it owns every index
abbrev pub OneRankOwnsAll : Type 0
OneRankOwnsAll = (extent block index : ℕ) → owner_of (cyclic_triples extent 1 block) index ≡ 0

-- rank 0 is then the home of all points, all its points are interior, and so its interior points add what the body does
pub record IsAlone (job : Checked) (entries : Entries) (places : Places) (nest : Nest) : Type 0 where
  pub home : home_points job places nest 0 ≡ points nest
  pub interior : (t : Term) → interior_points job entries places nest t 0 ≡ answer job entries places nest t 0
  pub boundary : (t : Term) → boundary_points job entries places nest t 0 ≡ []
  pub sum : PassesSum → (state : State) (element : ℕ) → SparseHoldZeros job entries state →
      interior_sum job entries places state nest 0 element (terms_of job nest.body) ≡ body_sum job state nest element (points nest)

abbrev pub OneRankIsAlone : Type 0
OneRankIsAlone = (job : Checked) (entries : Entries) (places : Places) (nest : Nest) → OwnsAll places → IsAlone job entries places nest
