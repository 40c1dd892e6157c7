-- Until their turn comes, what the others and the last rank hold of each other is as it was.
use Rattle.std.proofs.Common.{◌≡◌, ◌+◌, ◌*◌, length, vec_len, vec_capacity}
use Rattle.rank_mail.proofs.CarryLemmas.{IsParting}
use Rattle.rank_mail.proofs.office.part.Given as goal

abbrev pub invariant-loop-theirs : goal.invariant-loop-theirs
invariant-loop-theirs g l =
    IsParting g.books (length l.fn.ends.items) l.fn.ends.items l.fn.last l.fn.closed.items l.ends.items l.peers.items l.closed.items
    × (vec_len l.closed + 2 * length l.peers.items ≡ vec_len l.fn.closed + 2 * length l.fn.ends.items)
    × (vec_capacity l.closed ≡ vec_capacity l.fn.closed)

abbrev pub decreases-loop-theirs : goal.decreases-loop-theirs
decreases-loop-theirs g l = goal.left-loop-theirs g l
