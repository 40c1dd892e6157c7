-- The arrays before this one are measured.
use Rattle.std.proofs.Common.{◌≡◌, map}
use Rattle.std.specs.List.{range_with_len}
use Rattle.job_plans.specs.Least.{measured_at}
use Rattle.job_plans.proofs.measuring.measured.Given as goal

abbrev pub invariant-loop-number : goal.invariant-loop-number
invariant-loop-number l = l.found ≡ map (measured_at l.job l.matrices) (range_with_len 0 l.number)
