-- All letters were due both ways.
use Rattle.rank_mail.specs.Examples.{alike}
use Rattle.rank_cases.proofs.mail.both_ways.Given as goal

abbrev pub ghost-close : goal.ghost-close
ghost-close g a = alike 1000
