-- The arrays so far, within the limit.
use Rattle.std.proofs.Common.{◌≡◌, ◌≤◌, take}
use Rattle.std.specs.List.{sum_by}
use Rattle.bern_base.specs.declared.limits.TheConstants.{MOST_WEIGHT}
use Rattle.job_files.specs.Weight.{array_weight}
use Rattle.job_files.proofs.weights.weight_within.Given as goal

abbrev pub invariant-arrays : goal.invariant-arrays
invariant-arrays l = record {
  weight : l.weight ≡ sum_by (array_weight l.job.formats l.ranks) (take l.array-index l.job.arrays);
  within : l.weight ≤ MOST_WEIGHT;
}
