use Rattle.std.proofs.Common.{◌<◌, ℕ, Option, Some, None, sym, subst, arith}
use Rattle.std.proofs.lemmas.List.{length-set}
use Rattle.format_model.specs.Grids.{Grid, HasElement, with_element}
use Rattle.local_views.specs.Views.{cut_of, view_grid}
use Rattle.formats.specs.AnyStores.{any_grid, any_tree}
use Rattle.placement.specs.Cyclic.{cyclic_triples}
use Rattle.view_cases.proofs.cells.sets.Goals as goal

still : (g : Option Grid) (element value k : ℕ) → HasElement g k → HasElement (with_element g element value) k
still None element value k has = has
still (Some g) element value k has = omega (arith, has, length-set g.values element value)

pub cells-requires-2 : goal.cells-requires-2
cells-requires-2 c k low =
    let v = c.args.view in
    let before : Option Grid = view_grid (cut_of v.axis v.cols (cyclic_triples v.place.extent v.place.ranks v.place.block) v.rank) (any_tree v.store).levels (any_grid v.store) in
    subst (λ g. HasElement g k) (sym c.set.ensures.grid) (still before c.args.element c.new.result k (c.requires.cells k low))
