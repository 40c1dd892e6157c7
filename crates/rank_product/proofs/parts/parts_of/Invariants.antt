-- The parts so far.
use Rattle.std.proofs.Common.{◌≡◌, take}
use Rattle.placement.specs.Cyclic.{cyclic_triples}
use Rattle.rank_product.specs.Runs.{parts_at}
use Rattle.rank_product.proofs.parts.parts_of.Given as goal

abbrev pub invariant-loop-matrix : goal.invariant-loop-matrix
invariant-loop-matrix l = l.parts.items ≡ parts_at (cyclic_triples l.place.extent l.place.ranks l.place.block) l.rank (take l.matrix-index l.matrix-items)
