-- The letters so far were posted.
use Rattle.std.proofs.Common.{◌≡◌, length}
use Rattle.rank_mail.specs.Desks.{IsSameEnd, posted}
use Rattle.rank_cases.proofs.mail.post_some.Given as goal

abbrev pub invariant-loop-number : goal.invariant-loop-number
invariant-loop-number g l = IsSameEnd l.fn.end l.end × (length (posted l.end l.to) ≡ l.number)
