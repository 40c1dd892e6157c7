use Rattle.std.proofs.Common.{◌≡◌, ℕ, ◌-◌, ◌<◌, ◌≤◌, ◌++◌, length, map, get_or, take}
use Rattle.stores_shaped.specs.Counts.{entry_of, row_at}
use Rattle.stores_shaped.proofs.dealing.push_diagonal.Given as goal

abbrev pub invariant-rows : goal.invariant-rows
invariant-rows l = record {
  within : l.width ≤ length l.fn.rows;
  some : (place : ℕ) → place < l.width → l.diagonal < (row_at l.fn.rows place).count;
  indices : l.indices.items ≡ l.initial.indices.items ++ map (λ r. get_or l.filled.indices.items (entry_of l.filled.starts.items l.diagonal r) 0) (take l.width l.fn.rows);
  values : l.values.items ≡ l.initial.values.items ++ map (λ r. get_or l.filled.values.items (entry_of l.filled.starts.items l.diagonal r) 0) (take l.width l.fn.rows);
}

abbrev pub decreases-rows : goal.decreases-rows
decreases-rows l = length l.fn.rows - l.width
