-- There is a count for each rank.
use Rattle.std.proofs.Common.{◌≡◌, vec_len}
use Rattle.placement.proofs.listed.counts.Given as goal

abbrev pub invariant-loop-entry : goal.invariant-loop-entry
invariant-loop-entry l = vec_len l.counts ≡ l.ranks
