use Rattle.rank_scripts.proofs.RoundLemmas.{IsClosed-turns, book-turns, book-own, total-turns}
use Rattle.turn_model.specs.Schedules.{request, rounds, values_letter}
use Rattle.turn_model.specs.Runs.{schedule, turns_of}
use Rattle.turn_model.proofs.DueLemmas.{due-is}
use Rattle.turn_model.proofs.laws.books_are_due.Goals as goal

pub returns-clause-book : goal.returns-clause-book
returns-clause-book c = λ run. book-turns run.ranks (turns_of run) (request (schedule run)) (values_letter (schedule run))

pub returns-clause-own : goal.returns-clause-own
returns-clause-own c = λ run p. book-own run.ranks p (rounds (schedule run))

pub returns-clause-due : goal.returns-clause-due
returns-clause-due c = due-is

pub returns-clause-closed : goal.returns-clause-closed
returns-clause-closed c = λ run. IsClosed-turns run.ranks (turns_of run) (request (schedule run)) (values_letter (schedule run))

pub returns-clause-total : goal.returns-clause-total
returns-clause-total c = λ run. total-turns run.ranks (turns_of run) (request (schedule run)) (values_letter (schedule run))
