use Rattle.std.proofs.Common.{◌≡◌, ap, ◌∙◌, subst, slice_get}
use Rattle.std.specs.Arc.{arc_value}
use Rattle.formats.specs.AnyStores.{any_grid, any_tree}
use Rattle.local_views.specs.Views.{cut_of, view_grid}
use Rattle.placement.specs.AnyPlaces.{triples_at}
use Rattle.rank_parts.proofs.DealLemmas.{build_needs, place_there, view_dealt, view_needs}
use Rattle.rank_parts.proofs.views.part_view.Goals as goal

pub build-requires : goal.build-requires
build-requires c =
    build_needs c.args.job.now (arc_value c.args.places.now) c.requires.0 c.args.number c.args.rank c.requires.1.0 c.args.order.now c.args.part.now c.requires.1.1
    c.at-array.result.now c.at-format.result.now c.at-array.ensures c.at-format.ensures

pub new-place-requires : goal.new-place-requires
new-place-requires c =
    let there = place_there c.args.job.now (arc_value c.args.places.now) c.requires.0 c.args.number c.args.rank c.requires.1.0 c.args.order.now c.args.part.now c.requires.1.1
    c.at-array.result.now c.at-format.result.now c.at-array.ensures c.at-format.ensures in
    rw c.in_ok-try_clone.ensures there

pub new-requires-clause-fits : goal.new-requires-clause-fits
new-requires-clause-fits c =
    view_needs c.args.job.now (arc_value c.args.places.now) c.requires.0 c.args.number c.args.rank c.requires.1.0 c.args.order.now c.args.part.now c.requires.1.1
    c.at-array.result.now c.at-format.result.now c.at-array.ensures c.at-format.ensures _
    (c.new-place.ensures.triples ∙ ap (λ ps. triples_at (slice_get ps c.at-array.result.now.place)) c.in_ok-try_clone.ensures) c.in_ok-store.store c.in_ok-store.ensures.describes

pub returns : goal.returns
returns c ranks m is =
    let v = c.new.result in
    view_dealt c.args.job.now (arc_value c.args.places.now) ranks c.args.number c.args.rank m c.args.order.now c.args.part.now is
    c.at-array.result.now c.at-format.result.now c.at-array.ensures c.at-format.ensures _
    (c.new-place.ensures.triples ∙ ap (λ ps. triples_at (slice_get ps c.at-array.result.now.place)) c.in_ok-try_clone.ensures) c.in_ok-store.store c.in_ok-store.ensures.describes
    _ _ (cut_of v.axis v.cols (triples_at (slice_get (arc_value v.place.places) v.place.place)) v.rank) c.in_ok-store.ensures.grid c.new.ensures.tree
    (ap (λ s. view_grid (cut_of v.axis v.cols (triples_at (slice_get (arc_value v.place.places) v.place.place)) v.rank) (any_tree s).levels (any_grid s)) c.new.ensures.store)
