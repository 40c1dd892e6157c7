-- The ends so far are an issue of their own.
use Rattle.rank_mail.specs.Desks.{IsNewIssue}
use Rattle.rank_mail.proofs.issue.issue_ends.Given as goal

abbrev pub ghost-seat : goal.ghost-seat
ghost-seat g a = g.books

abbrev pub invariant-loop-rank : goal.invariant-loop-rank
invariant-loop-rank g l = IsNewIssue g.books l.rank l.ends.items
