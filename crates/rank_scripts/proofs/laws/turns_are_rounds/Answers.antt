use Rattle.rank_scripts.specs.Rounds.{turn_rounds}
use Rattle.rank_scripts.proofs.RoundLemmas.{IsClosed-turns, book-turns, book-own, total-turns, letters-turns}
use Rattle.rank_scripts.proofs.laws.turns_are_rounds.Goals as goal

pub returns-clause-closed : goal.returns-clause-closed
returns-clause-closed c = IsClosed-turns

pub returns-clause-book : goal.returns-clause-book
returns-clause-book c = book-turns

pub returns-clause-own : goal.returns-clause-own
returns-clause-own c = λ ranks turns request values p. book-own ranks p (turn_rounds turns request values)

pub returns-clause-total : goal.returns-clause-total
returns-clause-total c = total-turns

pub returns-clause-letters : goal.returns-clause-letters
returns-clause-letters c = letters-turns
