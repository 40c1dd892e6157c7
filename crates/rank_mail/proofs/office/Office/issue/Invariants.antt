-- The books are those that the caller chooses.
use Rattle.rank_mail.proofs.office.Office.issue.Given as goal

abbrev pub ghost-issue_ends : goal.ghost-issue_ends
ghost-issue_ends g a = g.books
