use Rattle.std.proofs.Common.{arith}
use Rattle.job_rules.proofs.TermLemmas.{or_is}
use Rattle.job_rules.proofs.terms.Size.or.Goals as goal

pub returns : goal.returns
returns c = λ xs ys first second. or_is c.args.self c.args.other xs ys _ _ first second (omega arith) (omega arith)
