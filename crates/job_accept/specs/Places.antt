-- Where the place lines of a job stand among its array lines.
use Rattle.std.specs.Prelude.{ℕ, ◌≤◌, List, length}
use Rattle.std.specs.List.{All}
use Rattle.bern_base.specs.declared.job.Checked.{Checked}
use Rattle.bern_base.specs.declared.job.PlaceDecl.{PlaceDecl}
use Rattle.job_accept.specs.Front.{AcceptsBytes}

-- each place was declared after some of the arrays
abbrev pub StandAmongArrays : Checked → Type 0
StandAmongArrays job = All (λ place. place.arrays_before ≤ length job.arrays) job.places

-- what bytes are accepted as has no other places
abbrev pub PlacesStandAmongArrays : Type 0
PlacesStandAmongArrays = (bytes : List ℕ) (job : Checked) → AcceptsBytes bytes job → StandAmongArrays job
