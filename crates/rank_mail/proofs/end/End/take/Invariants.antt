-- A box that gives nothing stays as it was.
use Rattle.std.proofs.Common.{◌≡◌}
use Rattle.rank_mail.proofs.end.End.take.Given as goal

abbrev pub invariant-loop-from : goal.invariant-loop-from
invariant-loop-from g l = (l.self-inside.rank ≡ l.fn.self.rank) × (l.self-inside.peers.items ≡ l.fn.self.peers)
