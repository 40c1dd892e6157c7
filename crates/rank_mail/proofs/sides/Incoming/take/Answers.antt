use Rattle.std.proofs.Common.{ap}
use Rattle.rank_mail.proofs.BoxLemmas.{pops}
use Rattle.rank_mail.proofs.sides.Incoming.take.Goals as goal

pub pop_as-requires-clause-rule : goal.pop_as-requires-clause-rule
pop_as-requires-clause-rule g c = (pops _ _ (ap (λ v. v.role) c.self.invariant.1), λ items views h at. tt)
