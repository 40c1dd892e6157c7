use Rattle.std.proofs.Common.{ℕ, ◌+◌, ◌-◌, ◌<◌, ◌≤◌, get_or}
use Rattle.format_model.specs.Levels.{bits}
use Rattle.stores_packed.proofs.halving.search.Given as goal

abbrev pub invariant-halving : goal.invariant-halving
invariant-halving g l = record {
  from : l.fn.line.from ≤ l.low;
  to : l.low + l.count ≤ l.fn.line.to;
  below : (k : ℕ) → l.fn.line.from ≤ k → k < l.low → get_or l.indices k 0 < l.index;
  above : (k : ℕ) → l.low + l.count ≤ k → k < l.fn.line.to → l.index < get_or l.indices k 0;
  cost : l.steps + bits l.count ≤ l.initial.steps + bits (l.fn.line.to - l.fn.line.from);
}

abbrev pub decreases-halving : goal.decreases-halving
decreases-halving g l = l.count
