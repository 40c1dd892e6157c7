-- So many empty lists so far.
use Rattle.std.proofs.Common.{◌≡◌, replicate, []}
use Rattle.rank_node.proofs.sets.empty_lists.Given as goal

abbrev pub invariant-loop : goal.invariant-loop
invariant-loop g l = l.lists.items ≡ replicate l.counter []
