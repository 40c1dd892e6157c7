use Rattle.std.proofs.Common.{◌≡◌, ◌≤◌, ◌*◌, pos, ◌+ℤ◌, take}
use Rattle.std.specs.Prelude.{unsigned_abs}
use Rattle.std.specs.List.{fold}
use Rattle.job_rules.specs.Sums.{coefficient_part}
use Rattle.job_rules.proofs.sums.Sum.coefficient.Given as goal

abbrev pub invariant-loop-item : goal.invariant-loop-item
invariant-loop-item l = record {
  value : l.total ≡ fold (λ total item. total +ℤ coefficient_part l.variable item) (pos 0) (take l.item-index l.item-items);
  small : unsigned_abs l.total ≤ 4294967295 * l.item-index;
}
