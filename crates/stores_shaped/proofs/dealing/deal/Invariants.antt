use Rattle.std.proofs.Common.{◌≡◌, length}
use Rattle.stores_shaped.specs.Counts.{AreDealt}
use Rattle.stores_shaped.proofs.dealing.deal.Given as goal

abbrev pub invariant-diagonals : goal.invariant-diagonals
invariant-diagonals l = record {
  indices : AreDealt l.rows l.filled.indices.items l.filled.starts.items l.diagonal l.starts.items l.indices.items;
  values : AreDealt l.rows l.filled.values.items l.filled.starts.items l.diagonal l.starts.items l.values.items;
  alike : length l.values.items ≡ length l.indices.items;
}
