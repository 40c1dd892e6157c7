-- All letters are due both ways.
use Rattle.rank_mail.specs.Examples.{alike}
use Rattle.rank_cases.proofs.mail.two_ends.Given as goal

abbrev pub ghost-issue : goal.ghost-issue
ghost-issue a = alike 1000
