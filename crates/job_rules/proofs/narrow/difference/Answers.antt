use Rattle.std.proofs.Common.{arith}
use Rattle.std.proofs.lemmas.Int.{ints}
use Rattle.job_rules.proofs.SumLemmas.{form_fits}
use Rattle.job_rules.proofs.narrow.difference.Goals as goal

pub new-requires-2 : goal.new-requires-2
new-requires-2 c = form_fits _ _ _ _ _ (omega (arith, ints)) (omega (arith, ints)) (omega (arith, ints)) (omega (arith, ints)) (omega (arith, ints))
