-- The box is that of the two ranks, with their book.
use Rattle.rank_mail.proofs.sides.open.Given as goal

abbrev pub ghosts-split : goal.ghosts-split
ghosts-split g a = record { route = record { from = a._from; to = a._to; book = g.books a._from a._to } }
