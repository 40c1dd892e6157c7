use Rattle.rank_scripts.proofs.RoundLemmas.{IsClosed-rounds, book-rounds, total-rounds}
use Rattle.rank_scripts.proofs.laws.rounds_are_closed.Goals as goal

pub returns-clause-closed : goal.returns-clause-closed
returns-clause-closed c = IsClosed-rounds

pub returns-clause-books : goal.returns-clause-books
returns-clause-books c = book-rounds

pub returns-clause-total : goal.returns-clause-total
returns-clause-total c = total-rounds
