-- Those so far, and then those of the uses to come, are all.
use Rattle.std.proofs.Common.{◌≡◌, ◌++◌, drop, length}
use Rattle.std.specs.Vec.Iter.{into_iter_items, into_iter_len}
use Rattle.job_files.specs.Uses.{array_matrices}
use Rattle.job_files.proofs.arrays.own_matrices.Given as goal

abbrev pub invariant-loop-wanted : goal.invariant-loop-wanted
invariant-loop-wanted l = record {
  own : l.own ++ array_matrices (drop l.wanted-index l.uses) (into_iter_items l.loaded) ≡ array_matrices l.uses l.fn.loaded;
  count : length (into_iter_items l.loaded) ≡ length (drop l.wanted-index l.uses);
  len : into_iter_len l.loaded ≡ length (into_iter_items l.loaded);
}
