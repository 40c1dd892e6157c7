use Rattle.std.proofs.Common.{◌≡◌, ◌*◌, ◌<◌, List, ℕ, length, None, Some, refl, sym, ap, ◌∙◌, subst, arith}
use Rattle.std.proofs.lemmas.List.FromFn.{length-map-range_with_len}
use Rattle.bern_base.specs.Matrix.{element, values_of}
use Rattle.bern_base.specs.declared.axes.Axis.{Axis}
use Rattle.bern_base.specs.declared.axes.Axis.TheVariants as axis
use Rattle.bern_base.specs.declared.job.ArrayDecl.{ArrayDecl}
use Rattle.bern_base.specs.declared.job.FormatDecl.{FormatDecl}
use Rattle.bern_base.specs.declared.matrix.Matrix.{Matrix}
use Rattle.bern_base.specs.declared.shape.Shape.TheVariants as shape
use Rattle.format_model.specs.Checks.{astray_rule}
use Rattle.format_model.specs.Grids.{HasElement}
use Rattle.std.specs.Prelude.{false}
use Rattle.formats.specs.Admitted.{IsAdmitted}
use Rattle.format_model.specs.Trees.{Describes}
use Rattle.formats.specs.AnyStores.{any_grid, any_tree}
use Rattle.formats.specs.Builds.{CanBuild}
use Rattle.formats.specs.declared.any_store.AnyStore.{AnyStore}
use Rattle.formats.proofs.AdmittedLemmas.{parts-can-be-built, parts-can-be-viewed, sizes_of}
use Rattle.placement.specs.Cyclic.{cyclic_triples}
use Rattle.placement.specs.CyclicLaws.{is_placement}
use Rattle.placement.specs.Part.{extent_on}
use Rattle.placement.specs.Placement.{Triple}
use Rattle.placement.specs.declared.part.Part.{Part}
use Rattle.local_views.specs.Views.{Cut, cut_of}
use Rattle.stores_flat.specs.Dense.{grid_of}
use Rattle.view_laws.proofs.SetLemmas.{any_seen}
use Rattle.view_cases.proofs.cells.view_of.Goals as goal

sides : (a : Axis) (rows cols n : ℕ) → rows ≡ 3 → cols ≡ 3 → n ≡ 3 → extent_on a rows cols ≡ n
sides axis.Row rows cols n row col is = row ∙ sym is
sides axis.Col rows cols n row col is = col ∙ sym is
sides axis.Both rows cols n row col is = row ∙ sym is

pub build-requires : goal.build-requires
build-requires c =
    let m = c.in_ok-matrix.matrix in
    let place = c.new-place.result in
    let decl : ArrayDecl = record { name = c.new-2.result; dims = 2; rows = 3; cols = 3; format = 0; axis = c.args.axis; place = 0; file = None } in
    let format : FormatDecl = record { name = c.new.result; shape = shape.DenseDense c.args.outer } in
    let ts : List Triple = cyclic_triples place.extent place.ranks place.block in
    let sizes = sizes_of 3 3 m (astray_rule format.shape m) (sym c.in-Ok.ensures) in
    let extent : extent_on c.args.axis m.rows m.cols ≡ length ts = sides c.args.axis m.rows m.cols (length ts) sizes.0 sizes.1 c.new-place.ensures.extent in
    let admitted : IsAdmitted decl format place.ranks c.new-3.result m = record {
      rows = omega arith;
      cols = omega arith;
      side = c.requires.side;
      levels = c.requires.outer;
      dims = refl;
      by_row = λ one. absurd cc;
      flat = λ one. absurd (omega (arith, one));
      matrix = c.in_ok-matrix.ensures;
      checked = sym c.in-Ok.ensures;
      listed = tt;
      weight = omega (arith, c.len.ensures, c.if-len-gt99.false);
    } in
    subst (λ (part : Part). CanBuild format.shape part.globals c.new-3.result part.matrix) (sym c.in_ok-part.ensures.part)
    (parts-can-be-built decl format place.ranks c.new-3.result m ts 0 admitted (is_placement place.extent place.ranks place.block place.some_rank place.some_block) extent)

pub new-view-requires-clause-fits : goal.new-view-requires-clause-fits
new-view-requires-clause-fits c =
    let m = c.in_ok-matrix.matrix in
    let place = c.new-place.result in
    let store : AnyStore = c.in_ok-store.store in
    let decl : ArrayDecl = record { name = c.new-2.result; dims = 2; rows = 3; cols = 3; format = 0; axis = c.args.axis; place = 0; file = None } in
    let format : FormatDecl = record { name = c.new.result; shape = shape.DenseDense c.args.outer } in
    let ts : List Triple = cyclic_triples place.extent place.ranks place.block in
    let sizes = sizes_of 3 3 m (astray_rule format.shape m) (sym c.in-Ok.ensures) in
    let extent : extent_on c.args.axis m.rows m.cols ≡ length ts = sides c.args.axis m.rows m.cols (length ts) sizes.0 sizes.1 c.new-place.ensures.extent in
    let admitted : IsAdmitted decl format place.ranks c.new-3.result m = record {
      rows = omega arith;
      cols = omega arith;
      side = c.requires.side;
      levels = c.requires.outer;
      dims = refl;
      by_row = λ one. absurd cc;
      flat = λ one. absurd (omega (arith, one));
      matrix = c.in_ok-matrix.ensures;
      checked = sym c.in-Ok.ensures;
      listed = tt;
      weight = omega (arith, c.len.ensures, c.if-len-gt99.false);
    } in
    parts-can-be-viewed decl format place.ranks c.new-3.result m ts 0 store admitted (is_placement place.extent place.ranks place.block place.some_rank place.some_block) extent
    (subst (λ (part : Part). Describes (any_tree store) format.shape part.globals c.new-3.result part.matrix) c.in_ok-part.ensures.part c.in_ok-store.ensures.describes)

pub returns : goal.returns
returns c k low =
    let v = c.new-view.result in
    let part : Matrix = c.in_ok-part.part.matrix in
    let cut : Cut = cut_of v.axis v.cols (cyclic_triples v.place.extent v.place.ranks v.place.block) v.rank in
    let had : any_grid v.store ≡ Some (grid_of false c.args.outer part) = ap any_grid c.new-view.ensures.store ∙ c.in_ok-store.ensures.grid in
    let seen = any_seen cut v.store false c.args.outer part had in
    let long : length (values_of part) ≡ part.rows * part.cols = length-map-range_with_len (element part.cols part.entries) 0 (part.rows * part.cols) in
    let last : k < length (values_of part) = omega (arith, low, long, c.if-part-ne6.false) in
    subst (λ g. HasElement g k) (sym seen) last
