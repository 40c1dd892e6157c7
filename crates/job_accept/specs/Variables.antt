-- The loop variables of the nests of a job.
use Rattle.std.specs.Prelude.{ℕ, ◌<◌, List, length}
use Rattle.std.specs.List.{All}
use Rattle.bern_base.specs.declared.job.Checked.{Checked}
use Rattle.bern_base.specs.declared.job.Nest.{Nest}
use Rattle.job_accept.specs.Front.{AcceptsBytes}

abbrev pub HasVariable : Nest → Type 0
HasVariable nest = 0 < length nest.vars

-- what bytes are accepted as has no nest without a variable
abbrev pub NestsHaveVariables : Type 0
NestsHaveVariables = (bytes : List ℕ) (job : Checked) → AcceptsBytes bytes job → All HasVariable job.nests
