use Rattle.std.proofs.Common.{◌≡◌, ◌==◌, take}
use Rattle.std.specs.List.{filter_map, position}
use Rattle.stores_shaped.proofs.orders.local_order.Given as goal

abbrev pub invariant-keeping : goal.invariant-keeping
invariant-keeping l = l.local.items ≡ filter_map (λ row. position (λ g. g == row) l.globals) (take l.row-index l.order)
