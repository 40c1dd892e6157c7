use Rattle.std.proofs.Common.{◌≡◌, ◌∙◌, List, length, sym, subst}
use Rattle.format_model.specs.Trees.{Describes}
use Rattle.formats.specs.Admitted.{IsAdmitted}
use Rattle.formats.specs.AnyStores.{any_tree}
use Rattle.formats.specs.Builds.{CanBuild}
use Rattle.formats.proofs.AdmittedLemmas.{parts-can-be-built, parts-can-be-viewed}
use Rattle.placement.specs.Cyclic.{cyclic_triples}
use Rattle.placement.specs.CyclicLaws.{is_placement}
use Rattle.placement.specs.Part.{extent_on}
use Rattle.placement.specs.Placement.{Triple}
use Rattle.placement.specs.declared.part.Part.{Part}
use Rattle.prog_cases.proofs.PartLemmas.{extent_same}
use Rattle.prog_cases.proofs.views.part_view.Goals as goal

pub build-requires : goal.build-requires
build-requires c =
    let array = c.args.array.now in
    let m = c.args.matrix.now in
    let place = c.new-place.result in
    let ts : List Triple = cyclic_triples place.extent place.ranks place.block in
    let admitted : IsAdmitted array c.args.format.now place.ranks c.args.order.now m =
    subst (λ n. IsAdmitted array c.args.format.now n c.args.order.now m) (sym c.new-place.ensures.ranks) c.requires.admitted in
    let extent : extent_on array.axis m.rows m.cols ≡ length ts = extent_same array c.args.format.now c.args.ranks c.args.order.now m c.requires.admitted ∙ sym c.split_size.ensures ∙ sym c.new-place.ensures.extent in
    subst (λ (part : Part). CanBuild c.args.format.now.shape part.globals c.args.order.now part.matrix) (sym c.in_ok-part.ensures.part)
    (parts-can-be-built array c.args.format.now place.ranks c.args.order.now m ts c.args.rank admitted (is_placement place.extent place.ranks place.block place.some_rank place.some_block) extent)

pub new-view-requires-clause-fits : goal.new-view-requires-clause-fits
new-view-requires-clause-fits c =
    let array = c.args.array.now in
    let m = c.args.matrix.now in
    let place = c.new-place.result in
    let ts : List Triple = cyclic_triples place.extent place.ranks place.block in
    let admitted : IsAdmitted array c.args.format.now place.ranks c.args.order.now m =
    subst (λ n. IsAdmitted array c.args.format.now n c.args.order.now m) (sym c.new-place.ensures.ranks) c.requires.admitted in
    let extent : extent_on array.axis m.rows m.cols ≡ length ts = extent_same array c.args.format.now c.args.ranks c.args.order.now m c.requires.admitted ∙ sym c.split_size.ensures ∙ sym c.new-place.ensures.extent in
    parts-can-be-viewed array c.args.format.now place.ranks c.args.order.now m ts c.args.rank c.in_ok-store.store admitted
    (is_placement place.extent place.ranks place.block place.some_rank place.some_block) extent
    (subst (λ (part : Part). Describes (any_tree c.in_ok-store.store) c.args.format.now.shape part.globals c.args.order.now part.matrix) c.in_ok-part.ensures.part c.in_ok-store.ensures.describes)
