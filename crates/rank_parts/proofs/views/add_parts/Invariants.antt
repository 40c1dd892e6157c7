-- The first ranks have the views of their parts of the array.
use Rattle.std.proofs.Common.{◌≡◌, ◌≤◌, ℕ, List, Some, drop, length, slice_get}
use Rattle.std.specs.Arc.{arc_value}
use Rattle.std.specs.Vec.Iter.{into_iter_items, into_iter_len}
use Rattle.bern_base.specs.declared.matrix.Matrix.{Matrix}
use Rattle.rank_parts.specs.Dealing.{ArePartsOf, AreRows, IsDealtIn, seen_grid, seen_tree}
use Rattle.rank_parts.proofs.views.add_parts.Given as goal

abbrev pub invariant-loop-part : goal.invariant-loop-part
invariant-loop-part l = record {
  left : into_iter_items l.part-iterator ≡ drop l.rank l.fn.parts;
  long : into_iter_len l.part-iterator ≡ length (into_iter_items l.part-iterator);
  most : l.rank ≤ length l.fn.parts;
  count : length l.views ≡ l.ranks;
  rows : (ms : List Matrix) (m : Matrix) → slice_get ms l.number ≡ Some m → ArePartsOf l.fn.job (arc_value l.fn.places) l.ranks l.number m l.fn.order l.fn.parts →
      AreRows l.fn.views (λ r n v. IsDealtIn l.fn.job (arc_value l.fn.places) l.ranks ms r n (seen_tree v.store (slice_get (arc_value v.place.places) v.place.place) v.axis v.cols v.rank)
      (seen_grid v.store (slice_get (arc_value v.place.places) v.place.place) v.axis v.cols v.rank)) l.ranks l.number 0 →
      AreRows l.views (λ r n v. IsDealtIn l.fn.job (arc_value l.fn.places) l.ranks ms r n (seen_tree v.store (slice_get (arc_value v.place.places) v.place.place) v.axis v.cols v.rank)
      (seen_grid v.store (slice_get (arc_value v.place.places) v.place.place) v.axis v.cols v.rank)) l.ranks l.number l.rank;
}
