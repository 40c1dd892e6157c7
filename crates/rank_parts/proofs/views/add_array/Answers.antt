use Rattle.std.proofs.Common.{◌≡◌, Some, slice_get, subst}
use Rattle.std.specs.Arc.{arc_value}
use Rattle.rank_parts.proofs.DealLemmas.{parts_are_of}
use Rattle.rank_parts.proofs.views.add_array.Goals as goal

pub add_parts-requires-clause-parts : goal.add_parts-requires-clause-parts
add_parts-requires-clause-parts c = (
  c.args.matrix,
  parts_are_of c.args.job.now (arc_value c.args.places.now) c.args.ranks c.args.number c.args.matrix c.args.order.now c.in_ok-parts.parts c.at-array.result.now c.at-place.result.now c.requires.deals
      c.at-array.ensures (subst (λ ps. slice_get ps c.at-array.result.now.place ≡ Some c.at-place.result.now) c.deref.ensures c.at-place.ensures) c.in_ok-parts.ensures.parts c.values_fit.ensures,
)

pub returns-clause-adds : goal.returns-clause-adds
returns-clause-adds c = λ ms is first.
    c.add_parts.ensures.adds ms c.args.matrix is
    (parts_are_of c.args.job.now (arc_value c.args.places.now) c.args.ranks c.args.number c.args.matrix c.args.order.now c.in_ok-parts.parts c.at-array.result.now c.at-place.result.now c.requires.deals
    c.at-array.ensures (subst (λ ps. slice_get ps c.at-array.result.now.place ≡ Some c.at-place.result.now) c.deref.ensures c.at-place.ensures) c.in_ok-parts.ensures.parts c.values_fit.ensures) first
