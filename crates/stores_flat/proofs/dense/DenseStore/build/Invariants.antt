-- The entries so far stand among zeros.
use Rattle.std.proofs.Common.{◌≡◌, take}
use Rattle.bern_base.specs.Matrix.{matrix_values}
use Rattle.stores_flat.specs.Dense.{dense_grid, grid_with}
use Rattle.stores_flat.proofs.dense.DenseStore.build.Given as goal

abbrev pub invariant-loop-entry : goal.invariant-loop-entry
invariant-loop-entry l =
    dense_grid l.store.layout l.store.lines l.store.width l.store.values ≡ grid_with l.fn.single l.fn.axis l.part.rows l.part.cols (matrix_values l.part.rows l.part.cols (take l.entry-index l.entry-items))
