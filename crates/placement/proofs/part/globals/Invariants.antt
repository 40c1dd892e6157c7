-- The indices so far are the first of those of the rank.
use Rattle.std.proofs.Common.{◌≡◌, take}
use Rattle.placement.specs.Placement.{owned_indices}
use Rattle.placement.proofs.part.globals.Given as goal

abbrev pub invariant-loop-local : goal.invariant-loop-local
invariant-loop-local g l = l.globals.items ≡ take l.local (owned_indices (g.P.Placement.triples l.place) l.rank)
