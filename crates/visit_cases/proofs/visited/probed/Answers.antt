use Rattle.std.proofs.Common.{[], length, ap}
use Rattle.visit_cases.proofs.visited.probed.Goals as goal

pub entries_view-requires : goal.entries_view-requires
entries_view-requires c = ap (λ ls. length ls) (c.in_ok-store.ensures [] []).levels
