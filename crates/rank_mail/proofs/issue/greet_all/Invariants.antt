-- The ranks before `other` have met the next one.
use Rattle.rank_mail.specs.Meetings.{IsMet, AreUnused}
use Rattle.rank_mail.proofs.issue.greet_all.Given as goal

abbrev pub ghost-open_both : goal.ghost-open_both
ghost-open_both g a = g.books

abbrev pub invariant-loop-other : goal.invariant-loop-other
invariant-loop-other g l = IsMet g.books l.rank l.other l.ends.items l.peers.items × AreUnused l.ends.items l.peers.items
