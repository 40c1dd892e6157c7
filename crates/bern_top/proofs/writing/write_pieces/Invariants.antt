-- The pieces so far are written.
use Rattle.std.proofs.Common.{◌≤◌, List, ℕ, take, flat_map, Bor}
use Rattle.std.specs.Io.KnownBytes.{Appends}
use Rattle.bern_top.proofs.writing.write_pieces.Given as goal

abbrev pub invariant-loop-piece : goal.invariant-loop-piece
invariant-loop-piece g l = record {
  later : g.S.Sink.faults l.fn.sink ≤ g.S.Sink.faults l.sink;
  wrote : Appends (g.S.Sink.written l.fn.sink) (g.S.Sink.written l.sink) (flat_map (λ (piece : Bor (List ℕ)). piece.now) (take l.piece-index l.pieces));
}
