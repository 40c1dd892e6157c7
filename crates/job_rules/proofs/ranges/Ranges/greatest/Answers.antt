use Rattle.std.proofs.Common.{arith}
use Rattle.std.proofs.lemmas.Int.{ints, to_z-of_z}
use Rattle.std.proofs.lemmas.List.Sums.{fold_more}
use Rattle.job_rules.proofs.ranges.Ranges.greatest.Goals as goal

pub loop-variable-preserved : goal.loop-variable-preserved
loop-variable-preserved c = record {
  value = grind (arith, ints, to_z-of_z, fold_more);
  small = omega (arith, ints);
}
