-- The ends that are left, and what was carried so far.
use Rattle.std.proofs.Common.{◌+◌, ◌*◌, ◌≤◌, length, vec_len, vec_capacity}
use Rattle.rank_mail.proofs.CarryLemmas.{IsClosing}
use Rattle.rank_mail.proofs.office.close_all.Given as goal

abbrev pub ghost-part : goal.ghost-part
ghost-part g a = g.books

abbrev pub invariant-loop-last : goal.invariant-loop-last
invariant-loop-last g l =
    IsClosing g.books l.fn.ends.items l.fn.closed.items l.ends.items l.closed.items
    × (vec_len l.closed + length l.ends.items * length l.ends.items ≤ vec_capacity l.closed)

abbrev pub decreases-loop-last : goal.decreases-loop-last
decreases-loop-last g l = length l.ends.items
