use Rattle.std.proofs.Common.{◌≡◌, ℕ, ◌<◌, get_or, length}
use Rattle.stores_shaped.proofs.orders.order_inverse.Given as goal

abbrev pub invariant-placing : goal.invariant-placing
invariant-placing l = record {
  long : length l.inverse.items ≡ length l.order;
  placed : (q : ℕ) → q < l.place → get_or l.inverse.items (get_or l.order q 0) 0 ≡ q;
}
