use Rattle.std.proofs.Common.{[], length, ap}
use Rattle.visit_cases.proofs.visited.grid.Goals as goal

pub grid_view-requires : goal.grid_view-requires
grid_view-requires c = ap (λ ls. length ls) (c.in_ok-store.ensures [] []).levels
