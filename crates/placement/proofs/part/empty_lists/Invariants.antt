-- So far there is an empty list for each rank.
use Rattle.std.proofs.Common.{◌≡◌, map, []}
use Rattle.std.specs.List.{range_with_len}
use Rattle.placement.proofs.part.empty_lists.Given as goal

abbrev pub invariant-ranks : goal.invariant-ranks
invariant-ranks l = l.lists ≡ map (λ _. []) (range_with_len 0 l.counter)
