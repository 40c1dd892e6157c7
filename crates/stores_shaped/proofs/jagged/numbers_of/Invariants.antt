use Rattle.std.proofs.Common.{◌≡◌, map, take}
use Rattle.stores_shaped.proofs.jagged.numbers_of.Given as goal

abbrev pub invariant-rows : goal.invariant-rows
invariant-rows l = l.order.items ≡ map (λ r. r.row) (take l.row-index l.rows)
