use Rattle.std.proofs.Common.{[], length, ap}
use Rattle.visit_cases.proofs.visited.square.Goals as goal

pub one_view-requires : goal.one_view-requires
one_view-requires c = ap (λ ls. length ls) (c.in_ok-store.ensures [] []).levels
