use Rattle.std.proofs.Common.{◌≡◌, List, ℕ, length, None, refl, sym, ◌∙◌, subst, arith}
use Rattle.bern_base.specs.declared.axes.Axis.{Axis}
use Rattle.bern_base.specs.declared.axes.Axis.TheVariants as axis
use Rattle.bern_base.specs.declared.job.ArrayDecl.{ArrayDecl}
use Rattle.bern_base.specs.declared.job.FormatDecl.{FormatDecl}
use Rattle.format_model.specs.Checks.{astray_rule}
use Rattle.formats.specs.Admitted.{IsAdmitted}
use Rattle.format_model.specs.Trees.{Describes}
use Rattle.formats.specs.AnyStores.{any_tree}
use Rattle.formats.specs.Builds.{CanBuild}
use Rattle.formats.specs.declared.any_store.AnyStore.{AnyStore}
use Rattle.formats.proofs.AdmittedLemmas.{parts-can-be-built, parts-can-be-viewed, sizes_of}
use Rattle.placement.specs.Cyclic.{cyclic_triples}
use Rattle.placement.specs.CyclicLaws.{is_placement}
use Rattle.placement.specs.Part.{extent_on}
use Rattle.placement.specs.Placement.{Triple}
use Rattle.placement.specs.declared.part.Part.{Part}
use Rattle.shaped_cases.proofs.shaped.reads_back.Goals as goal

sides : (a : Axis) (rows cols n : ℕ) → rows ≡ 3 → cols ≡ 3 → n ≡ 3 → extent_on a rows cols ≡ n
sides axis.Row rows cols n row col is = row ∙ sym is
sides axis.Col rows cols n row col is = col ∙ sym is
sides axis.Both rows cols n row col is = row ∙ sym is

pub build-requires : goal.build-requires
build-requires c =
    let m = c.args.matrix.now in
    let u = c.requires.usable in
    let place = c.new-place.result in
    let decl : ArrayDecl = record { name = c.new-2.result; dims = 2; rows = 3; cols = 3; format = 0; axis = c.args.axis; place = 0; file = None } in
    let format : FormatDecl = record { name = c.new.result; shape = c.args.shape } in
    let ts : List Triple = cyclic_triples place.extent place.ranks place.block in
    let sizes = sizes_of 3 3 m (astray_rule c.args.shape m) (sym c.in-Ok.ensures) in
    let extent : extent_on c.args.axis m.rows m.cols ≡ length ts = sides c.args.axis m.rows m.cols (length ts) sizes.0 sizes.1 c.new-place.ensures.extent in
    let admitted : IsAdmitted decl format place.ranks c.args.order.now m = record {
      rows = omega arith;
      cols = omega arith;
      side = c.requires.side;
      levels = u.levels;
      dims = sym u.dims;
      by_row = c.requires.split;
      flat = λ one. absurd (omega (arith, one));
      matrix = c.requires.matrix;
      checked = sym c.in-Ok.ensures;
      listed = u.listed;
      weight = omega (arith, u.light place.ranks decl refl refl, c.len.ensures);
    } in
    subst (λ (part : Part). CanBuild c.args.shape part.globals c.args.order.now part.matrix) (sym c.in_ok-part.ensures.part)
    (parts-can-be-built decl format place.ranks c.args.order.now m ts 0 admitted (is_placement place.extent place.ranks place.block place.some_rank place.some_block) extent)

pub new-view-requires-clause-fits : goal.new-view-requires-clause-fits
new-view-requires-clause-fits c =
    let m = c.args.matrix.now in
    let u = c.requires.usable in
    let place = c.new-place.result in
    let store : AnyStore = c.in_ok-store.store in
    let decl : ArrayDecl = record { name = c.new-2.result; dims = 2; rows = 3; cols = 3; format = 0; axis = c.args.axis; place = 0; file = None } in
    let format : FormatDecl = record { name = c.new.result; shape = c.args.shape } in
    let ts : List Triple = cyclic_triples place.extent place.ranks place.block in
    let sizes = sizes_of 3 3 m (astray_rule c.args.shape m) (sym c.in-Ok.ensures) in
    let extent : extent_on c.args.axis m.rows m.cols ≡ length ts = sides c.args.axis m.rows m.cols (length ts) sizes.0 sizes.1 c.new-place.ensures.extent in
    let admitted : IsAdmitted decl format place.ranks c.args.order.now m = record {
      rows = omega arith;
      cols = omega arith;
      side = c.requires.side;
      levels = u.levels;
      dims = sym u.dims;
      by_row = c.requires.split;
      flat = λ one. absurd (omega (arith, one));
      matrix = c.requires.matrix;
      checked = sym c.in-Ok.ensures;
      listed = u.listed;
      weight = omega (arith, u.light place.ranks decl refl refl, c.len.ensures);
    } in
    parts-can-be-viewed decl format place.ranks c.args.order.now m ts 0 store admitted (is_placement place.extent place.ranks place.block place.some_rank place.some_block) extent
    (subst (λ (part : Part). Describes (any_tree store) c.args.shape part.globals c.args.order.now part.matrix) c.in_ok-part.ensures.part c.in_ok-store.ensures.describes)
