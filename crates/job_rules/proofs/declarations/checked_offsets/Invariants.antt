use Rattle.std.proofs.Common.{◌≡◌, take}
use Rattle.job_rules.proofs.declarations.checked_offsets.Given as goal

abbrev pub invariant-loop-offset : goal.invariant-loop-offset
invariant-loop-offset l = l.checked ≡ take l.offset-index l.offsets
