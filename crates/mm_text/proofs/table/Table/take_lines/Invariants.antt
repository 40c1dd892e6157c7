-- The table now does with the rest of the piece as the one before does with the whole; each line took a byte.
use Rattle.std.proofs.Common.{◌+◌, ◌≤◌, length}
use Rattle.mm_text.specs.Tables.{LeavesLines}
use Rattle.mm_text.proofs.table.Table.take_lines.Given as goal

abbrev pub invariant-loop-line : goal.invariant-loop-line
invariant-loop-line l = record {
  reads : LeavesLines l.fn.self l.fn.number l.fn.piece l.self l.next l.rest;
  number : l.next + length l.rest ≤ l.fn.number + length l.fn.piece;
  shorter : length l.rest ≤ length l.fn.piece;
}

abbrev pub decreases-loop-line : goal.decreases-loop-line
decreases-loop-line l = length l.rest
