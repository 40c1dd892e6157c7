-- The entries before `low` have smaller numbers, and those from `high` on larger ones.
use Rattle.std.proofs.Common.{ℕ, ◌-◌, ◌<◌, ◌≤◌, map, length, get_or}
use Rattle.bern_base.specs.Matrix.{number}
use Rattle.bern_base.proofs.matrix.Matrix.value.Given as goal

abbrev pub invariant-loop-low : goal.invariant-loop-low
invariant-loop-low l = record {
  order : l.low ≤ l.high;
  top : l.high ≤ length l.entries;
  below : (k : ℕ) → k < l.low → get_or (map (number l.self.cols) l.entries) k 0 < l.number;
  above : (k : ℕ) → l.high ≤ k → k < length l.entries → l.number < get_or (map (number l.self.cols) l.entries) k 0;
}

abbrev pub decreases-loop-low : goal.decreases-loop-low
decreases-loop-low l = l.high - l.low
