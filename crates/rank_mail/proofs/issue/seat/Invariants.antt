-- All boxes are of one issue.
use Rattle.rank_mail.proofs.issue.seat.Given as goal

abbrev pub ghost-greet_all : goal.ghost-greet_all
ghost-greet_all g a = g.books
