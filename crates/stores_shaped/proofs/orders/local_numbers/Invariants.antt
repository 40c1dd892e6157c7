use Rattle.std.proofs.Common.{◌≡◌, ℕ, ◌<◌, ◌≤◌, length, get_or, drop, None}
use Rattle.stores_shaped.proofs.OrderLemmas.{place_from}
use Rattle.stores_shaped.proofs.orders.local_numbers.Given as goal

abbrev pub invariant-numbering : goal.invariant-numbering
invariant-numbering l = record {
  within : l.left ≤ length l.fn.globals;
  long : length l.locals.items ≡ l.rows;
  numbers : (row : ℕ) → row < l.rows → get_or l.locals.items row None ≡ place_from row l.left (drop l.left l.fn.globals);
}

abbrev pub decreases-numbering : goal.decreases-numbering
decreases-numbering l = l.left
