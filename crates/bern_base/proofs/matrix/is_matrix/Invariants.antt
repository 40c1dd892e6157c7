-- The entries so far are those of a matrix, and `least` is one above the last of their numbers.
use Rattle.std.proofs.Common.{◌≡◌, ℕ, ◌+◌, ◌-◌, ◌<◌, slice_index_or}
use Rattle.bern_base.specs.declared.matrix.Entry.{Entry}
use Rattle.bern_base.specs.Matrix.{number, IsInside}
use Rattle.bern_base.proofs.matrix.is_matrix.Given as goal

abbrev pub invariant-loop-entry : goal.invariant-loop-entry
invariant-loop-entry l = record {
  inside : (k : ℕ) (d : Entry) → k < l.entry-index → IsInside l.matrix.rows l.matrix.cols (slice_index_or l.entry-items k d);
  rising : (k : ℕ) (d : Entry) → k + 1 < l.entry-index → number l.matrix.cols (slice_index_or l.entry-items k d) < number l.matrix.cols (slice_index_or l.entry-items (k + 1) d);
  start : l.entry-index ≡ 0 → l.least ≡ 0;
  last : (d : Entry) → 0 < l.entry-index → l.least ≡ number l.matrix.cols (slice_index_or l.entry-items (l.entry-index - 1) d) + 1;
}
