-- So many ranks have no views.
use Rattle.std.proofs.Common.{◌≡◌, map, []}
use Rattle.std.specs.List.{range_with_len}
use Rattle.rank_parts.proofs.views.no_views.Given as goal

abbrev pub invariant-ranks : goal.invariant-ranks
invariant-ranks l = l.lists ≡ map (λ _. []) (range_with_len 0 l.counter)
