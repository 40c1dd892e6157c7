-- Both boxes are of the same issue.
use Rattle.rank_mail.proofs.peer.open_both.Given as goal

abbrev pub ghost-open : goal.ghost-open
ghost-open g a = g.books
