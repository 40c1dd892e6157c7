-- It has the sides of the same boxes.
use Rattle.rank_mail.specs.Desks.{IsSameEnd}
use Rattle.rank_cases.proofs.mail.take_some.Given as goal

abbrev pub invariant-loop : goal.invariant-loop
invariant-loop g l = IsSameEnd l.fn.end l.end
