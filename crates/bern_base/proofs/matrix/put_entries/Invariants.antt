-- The entries so far stand in their places.
use Rattle.std.proofs.Common.{◌≡◌, take}
use Rattle.bern_base.specs.Matrix.{matrix_values}
use Rattle.bern_base.proofs.matrix.put_entries.Given as goal

abbrev pub invariant-loop-entry : goal.invariant-loop-entry
invariant-loop-entry l = l.values ≡ matrix_values l.matrix.rows l.matrix.cols (take l.entry-index l.entry-items)
