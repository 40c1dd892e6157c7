-- The values so far are grown.
use Rattle.std.proofs.Common.{◌≡◌, map, slice_index_or}
use Rattle.std.specs.List.{range_with_len}
use Rattle.bern_base.specs.Ring.{ring_add}
use Rattle.rank_node.proofs.sums.applied.Given as goal

abbrev pub invariant-loop-at : goal.invariant-loop-at
invariant-loop-at l = l.new.items ≡ map (λ k. ring_add (slice_index_or l.values k 0) (slice_index_or l.sums k 0)) (range_with_len 0 l.at)
