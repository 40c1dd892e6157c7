-- What was written so far stands before what is left.
use Rattle.std.proofs.Common.{◌≡◌, ℕ, ◌≤◌, List, ◌++◌, length}
use Rattle.std.specs.Io.KnownBytes.{Appends}
use Rattle.bern_top.proofs.writing.write_whole.Given as goal

abbrev pub invariant-loop-rest : goal.invariant-loop-rest
invariant-loop-rest g l = record {
  later : g.S.Sink.faults l.fn.sink ≤ g.S.Sink.faults l.sink;
  part : (front : List ℕ) × (l.fn.bytes ≡ front ++ l.rest) × Appends (g.S.Sink.written l.fn.sink) (g.S.Sink.written l.sink) front;
}

abbrev pub decreases-loop-rest : goal.decreases-loop-rest
decreases-loop-rest g l = length l.rest
