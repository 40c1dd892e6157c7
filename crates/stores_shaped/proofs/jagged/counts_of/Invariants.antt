use Rattle.std.proofs.Common.{◌≡◌, map, take}
use Rattle.stores_shaped.proofs.jagged.counts_of.Given as goal

abbrev pub invariant-rows : goal.invariant-rows
invariant-rows l = l.counts.items ≡ map (λ r. r.count) (take l.row-index l.rows)
