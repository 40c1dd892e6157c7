use Rattle.std.proofs.Common.{ap}
use Rattle.rank_mail.proofs.BoxLemmas.{forks}
use Rattle.rank_mail.proofs.sides.split.Goals as goal

pub another-requires-clause-rule : goal.another-requires-clause-rule
another-requires-clause-rule g c = forks g.C.Course.route _ _ (ap (λ v. v.role) c.requires.whole)
