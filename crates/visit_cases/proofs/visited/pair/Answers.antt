use Rattle.std.proofs.Common.{[], length, ap}
use Rattle.visit_cases.proofs.visited.pair.Goals as goal

pub two_views-requires-clause-left_depth : goal.two_views-requires-clause-left_depth
two_views-requires-clause-left_depth c = ap (λ ls. length ls) (c.in_ok-left_store.ensures [] []).levels

pub two_views-requires-clause-right_depth : goal.two_views-requires-clause-right_depth
two_views-requires-clause-right_depth c = ap (λ ls. length ls) (c.in_ok-right_store.ensures [] []).levels
