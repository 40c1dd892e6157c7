use Rattle.std.proofs.Common.{ℕ, ◌+◌, ◌-◌, ◌<◌, ◌≤◌}
use Rattle.format_model.specs.Levels.{bits}
use Rattle.stores_shaped.proofs.halving.search.Given as goal

abbrev pub invariant-halving : goal.invariant-halving
invariant-halving g l = record {
  from : l.line.from ≤ l.low;
  to : l.high ≤ l.line.to;
  below : (k : ℕ) → l.line.from ≤ k → k < l.low → g.S.RisingLines.index l.lines l.row k < l.column;
  above : (k : ℕ) → l.high ≤ k → k < l.line.to → l.column < g.S.RisingLines.index l.lines l.row k;
  cost : l.steps + bits (l.high - l.low) ≤ l.initial.steps + bits (l.line.to - l.line.from);
}

abbrev pub decreases-halving : goal.decreases-halving
decreases-halving g l = l.high - l.low
