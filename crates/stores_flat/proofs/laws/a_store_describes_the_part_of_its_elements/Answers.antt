use Rattle.std.proofs.Common.{◌≡◌}
use Rattle.stores_flat.specs.Dense.{dense_grid, grid_of}
use Rattle.stores_flat.proofs.Describing.{described}
use Rattle.stores_flat.proofs.laws.a_store_describes_the_part_of_its_elements.Goals as goal

pub returns : goal.returns
returns c s single outer m is =
    let same : dense_grid s.layout s.lines s.width s.values ≡ grid_of single outer m = cc in described s.layout s.lines s.width s.values single outer m s.single same
