use Rattle.std.proofs.Common.{◌≡◌, take, length}
use Rattle.format_model.specs.Axes.{extent_of}
use Rattle.formats.proofs.MarkLemmas.{AreMarked}
use Rattle.formats.proofs.filled.marks.Given as goal

abbrev pub invariant-loop-entry : goal.invariant-loop-entry
invariant-loop-entry l = record {
  long : length l.filled.items ≡ extent_of l.axis l.matrix.rows l.matrix.cols;
  marked : AreMarked l.axis l.matrix.cols (take l.entry-index l.entry-items) l.filled.items;
}
