-- The marks so far are those of the entries so far.
use Rattle.std.proofs.Common.{◌≡◌, ℕ, ◌<◌, Bool, length, take, slice_index_or}
use Rattle.rank_model.specs.Products.{reads}
use Rattle.rank_node.proofs.sets.marks.Given as goal

abbrev pub invariant-loop-entry : goal.invariant-loop-entry
invariant-loop-entry l = record {
  long : length l.marks.items ≡ l.extent;
  each : (w : ℕ) (d : Bool) → w < l.extent → slice_index_or l.marks.items w d ≡ reads (take l.entry-index l.entries) w;
}
