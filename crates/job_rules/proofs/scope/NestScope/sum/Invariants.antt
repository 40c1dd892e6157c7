use Rattle.std.proofs.Common.{◌≡◌, ◌<◌, map, take}
use Rattle.std.specs.List.{All}
use Rattle.std.specs.Prelude.{unsigned_abs}
use Rattle.job_rules.specs.Looked.{item_of}
use Rattle.job_rules.specs.Sums.{item_limit}
use Rattle.job_rules.proofs.scope.NestScope.sum.Given as goal

abbrev pub invariant-loop-item : goal.invariant-loop-item
invariant-loop-item l = record {
  same : l.items ≡ map (item_of l.self) (take l.item-index l.item-items);
  small : All (λ item. unsigned_abs item.number < item_limit item.meaning) l.items;
}
