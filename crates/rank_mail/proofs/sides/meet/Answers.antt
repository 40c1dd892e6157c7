use Rattle.std.proofs.Common.{ap}
use Rattle.rank_mail.proofs.BoxLemmas.{merges, totals}
use Rattle.rank_mail.proofs.sides.meet.Goals as goal

pub absorb-requires-clause-rule : goal.absorb-requires-clause-rule
absorb-requires-clause-rule g c = merges _ _ _ _ c.requires.receiver.1 c.requires.sender.1

pub len_as-requires-clause-rule : goal.len_as-requires-clause-rule
len_as-requires-clause-rule g c = totals _ _ (ap (λ v. v.role) c.absorb.ensures.rule)
