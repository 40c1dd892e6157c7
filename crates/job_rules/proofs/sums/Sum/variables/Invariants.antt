use Rattle.std.proofs.Common.{◌≡◌, ◌≤◌, [], take, length}
use Rattle.std.specs.List.{fold}
use Rattle.job_rules.specs.Sums.{add_variable}
use Rattle.job_rules.proofs.sums.Sum.variables.Given as goal

abbrev pub invariant-loop-item : goal.invariant-loop-item
invariant-loop-item l = record {
  value : l.vars ≡ fold add_variable [] (take l.item-index l.item-items);
  few : length l.vars ≤ l.item-index;
}
