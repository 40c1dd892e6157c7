use Rattle.std.proofs.Common.{◌≡◌}
use Rattle.stores_shaped.proofs.ArrangeLemmas.{arranged}
use Rattle.stores_shaped.proofs.arranging.rows_in_order.Given as goal

abbrev pub invariant-placing : goal.invariant-placing
invariant-placing l = l.entries.items ≡ arranged l.order l.part l.place
