-- The first arrays have their stores.
use Rattle.std.proofs.Common.{◌≡◌, length}
use Rattle.std.specs.Vec.Iter.{into_iter_items, into_iter_len}
use Rattle.whole_runs.proofs.StoreLemmas.{AreBuilt}
use Rattle.whole_runs.proofs.stores.whole_stores.Given as goal

abbrev pub invariant-loop-matrix : goal.invariant-loop-matrix
invariant-loop-matrix l =
    AreBuilt l.fn.job l.fn.matrices l.stores (into_iter_items l.matrix-iterator)
    × (into_iter_len l.matrix-iterator ≡ length (into_iter_items l.matrix-iterator))
