-- The reading now does with the rest of the piece as the first one does with the whole; each line took a byte.
use Rattle.std.proofs.Common.{◌≡◌, ℕ, ◌+◌, ◌≤◌, List, ◌++◌, length}
use Rattle.mm_text.specs.Readings.{rest_of}
use Rattle.mm_text.proofs.reading.Reading.take.Given as goal

abbrev pub invariant-loop-line : goal.invariant-loop-line
invariant-loop-line l = record {
  reads : (more : List ℕ) → rest_of l.fn.self (l.fn.piece ++ more) ≡ rest_of l.reading (l.rest ++ more);
  number : l.reading.number + length l.rest ≤ l.fn.self.number + length l.fn.piece;
}

abbrev pub decreases-loop-line : goal.decreases-loop-line
decreases-loop-line l = length l.rest
