use Rattle.std.proofs.Common.{◌≡◌, Some}
use Rattle.stores_flat.specs.Dense.{dense_grid, grid_of}
use Rattle.stores_flat.proofs.Describing.{changed, described}
use Rattle.stores_flat.proofs.laws.a_set_store_describes_the_changed_part.Goals as goal

pub returns-clause-grid : goal.returns-clause-grid
returns-clause-grid c s t single outer old new element value is =
    changed (Some (dense_grid s.layout s.lines s.width s.values)) (Some (dense_grid t.layout t.lines t.width t.values)) single outer old new element value is

pub returns-clause-describes : goal.returns-clause-describes
returns-clause-describes c s t single outer old new element value is =
    let whole = changed (Some (dense_grid s.layout s.lines s.width s.values)) (Some (dense_grid t.layout t.lines t.width t.values)) single outer old new element value is in
    let same : dense_grid t.layout t.lines t.width t.values ≡ grid_of single outer new = cc whole in described t.layout t.lines t.width t.values single outer new t.single same
