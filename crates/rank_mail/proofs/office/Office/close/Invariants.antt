-- The books are those of the issue.
use Rattle.rank_mail.proofs.office.Office.close.Given as goal

abbrev pub ghost-close_all : goal.ghost-close_all
ghost-close_all g a = g.books
