-- The arrays so far have their matrices, and those that are left are of the arrays to come.
use Rattle.std.proofs.Common.{◌≡◌, ◌++◌, drop, filter, length}
use Rattle.std.specs.Vec.Iter.{into_iter_items, into_iter_len}
use Rattle.job_files.specs.Uses.{has_file, spread}
use Rattle.job_files.proofs.arrays.with_zeros.Given as goal

abbrev pub invariant-loop-array : goal.invariant-loop-array
invariant-loop-array l = record {
  matrices : l.matrices ++ spread (drop l.array-index l.arrays) (into_iter_items l.own) ≡ spread l.arrays l.fn.own;
  count : length (into_iter_items l.own) ≡ length (filter has_file (drop l.array-index l.arrays));
  len : into_iter_len l.own ≡ length (into_iter_items l.own);
}
