-- Each rank has the views of its parts of the first arrays.
use Rattle.std.proofs.Common.{◌≡◌, ◌≤◌, drop, length, slice_get}
use Rattle.std.specs.Arc.{arc_value}
use Rattle.std.specs.Vec.Iter.{into_iter_items, into_iter_len}
use Rattle.rank_parts.specs.Dealing.{AreRows, IsDealtIn, seen_grid, seen_tree}
use Rattle.rank_parts.proofs.views.rank_views.Given as goal

abbrev pub invariant-loop-matrix : goal.invariant-loop-matrix
invariant-loop-matrix l = record {
  left : into_iter_items l.matrix-iterator ≡ drop l.number l.fn.matrices;
  long : into_iter_len l.matrix-iterator ≡ length (into_iter_items l.matrix-iterator);
  most : l.number ≤ length l.fn.matrices;
  rows : AreRows l.views
      (λ r n v. IsDealtIn l.fn.job (arc_value l.fn.places) l.ranks l.fn.matrices r n (seen_tree v.store (slice_get (arc_value v.place.places) v.place.place) v.axis v.cols v.rank)
      (seen_grid v.store (slice_get (arc_value v.place.places) v.place.place) v.axis v.cols v.rank))
      l.ranks l.number 0;
}
