-- The uses so far, and then those of the arrays to come and of the places among and after them, are all.
use Rattle.std.proofs.Common.{◌≡◌, ◌++◌, drop}
use Rattle.job_files.specs.Uses.{uses_from, uses_of, with_places}
use Rattle.job_files.proofs.mentions.uses_of.Given as goal

abbrev pub invariant-loop-number : goal.invariant-loop-number
invariant-loop-number l =
    l.uses ++ uses_from l.ranks (with_places l.places l.job) l.number (drop l.number l.job.arrays) ≡ uses_of l.ranks (with_places l.places l.job)
