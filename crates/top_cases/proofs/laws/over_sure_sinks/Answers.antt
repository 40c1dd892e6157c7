use Rattle.std.proofs.Common.{arith}
use Rattle.top_cases.proofs.laws.over_sure_sinks.Goals as goal

pub returns : goal.returns
returns g c = λ four. let rose = (c.bernoulli.ensures.write_fault four).0 in omega (arith, rose)
