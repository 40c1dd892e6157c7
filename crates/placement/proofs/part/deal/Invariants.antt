-- The parts so far are those of the first ranks, and the lists of the others are left.
use Rattle.std.proofs.Common.{◌≡◌, map, drop, length}
use Rattle.std.specs.List.{range_with_len}
use Rattle.std.specs.Vec.Iter.{into_iter_items, into_iter_len}
use Rattle.placement.specs.Part.{dealt, owner_of_entry, localized, part_of}
use Rattle.placement.proofs.part.deal.Given as goal

abbrev pub invariant-loop-rank : goal.invariant-loop-rank
invariant-loop-rank g l = record {
  parts : l.parts ≡ map (λ p. part_of l.axis (g.P.Placement.triples l.place) p l.matrix) (range_with_len 0 l.rank);
  lists : into_iter_items l.lists ≡ drop l.rank (dealt (owner_of_entry l.axis (g.P.Placement.triples l.place)) (localized l.axis (g.P.Placement.triples l.place)) l.ranks l.matrix.entries);
  len : into_iter_len l.lists ≡ length (into_iter_items l.lists);
}
