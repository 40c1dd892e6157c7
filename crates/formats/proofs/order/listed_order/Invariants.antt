-- The values so far name rows, each of them once and those that are marked; the order has them.
use Rattle.std.proofs.Common.{◌≡◌, ℕ, ◌<◌, length, take, get_or}
use Rattle.formats.specs.FileRules.{order_in}
use Rattle.formats.proofs.OrderLemmas.{AreListed, IsNumber}
use Rattle.formats.proofs.order.listed_order.Given as goal

abbrev pub invariant-positions : goal.invariant-positions
invariant-positions l = record {
  long : length l.listed.items ≡ l.rows;
  order : l.order ≡ order_in (take l.value-index l.values);
  numbers : (k d : ℕ) → k < l.value-index → IsNumber l.rows (get_or l.values k d);
  listed : AreListed l.rows (take l.value-index l.values) l.listed.items;
}
