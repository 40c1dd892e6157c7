use Rattle.std.proofs.Common.{ℕ, ◌-◌, ◌<◌, ◌≤◌, length}
use Rattle.std.specs.Prelude.{◌<ℤ◌, ◌≤ℤ◌}
use Rattle.stores_shaped.specs.Diagonals.{offset_at}
use Rattle.stores_shaped.proofs.crossing.below.Given as goal

abbrev pub invariant-halving : goal.invariant-halving
invariant-halving l = record {
  order : l.low ≤ l.high;
  top : l.high ≤ length l.offsets;
  before : (k : ℕ) → k < l.low → offset_at l.offsets k <ℤ l.bound;
  after : (k : ℕ) → l.high ≤ k → k < length l.offsets → l.bound ≤ℤ offset_at l.offsets k;
}

abbrev pub decreases-halving : goal.decreases-halving
decreases-halving l = l.high - l.low
