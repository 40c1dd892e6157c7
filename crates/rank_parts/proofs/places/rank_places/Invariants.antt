-- The first lines have their places.
use Rattle.std.proofs.Common.{◌≡◌, length}
use Rattle.std.specs.Vec.Iter.{into_iter_items, into_iter_len}
use Rattle.rank_parts.proofs.PlaceLemmas.{ArePlacesSoFar}
use Rattle.rank_parts.proofs.places.rank_places.Given as goal

abbrev pub invariant-loop-list : goal.invariant-loop-list
invariant-loop-list l =
    ArePlacesSoFar l.fn.job l.ranks l.fn.lists l.places (into_iter_items l.list-iterator)
    × (into_iter_len l.list-iterator ≡ length (into_iter_items l.list-iterator))
