-- The uses so far are of other files, or their rules are kept.
use Rattle.std.proofs.Common.{◌≡◌, drop}
use Rattle.job_files.specs.FileOrder.{first_broken}
use Rattle.job_files.proofs.uses.first_broken.Given as goal

abbrev pub invariant-uses : goal.invariant-uses
invariant-uses l = first_broken l.file l.matrix l.uses ≡ first_broken l.file l.matrix (drop l.wanted-index l.uses)
