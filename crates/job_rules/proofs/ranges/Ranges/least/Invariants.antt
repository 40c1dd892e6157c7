use Rattle.std.proofs.Common.{◌≡◌, ◌≤◌, ◌+◌, ◌*◌, ◌+ℤ◌, take}
use Rattle.std.specs.Prelude.{unsigned_abs}
use Rattle.std.specs.List.{fold}
use Rattle.job_rules.specs.Sums.{constant_of, coefficient_of, range_at, least_part}
use Rattle.job_rules.proofs.ranges.Ranges.least.Given as goal

abbrev pub invariant-loop-variable : goal.invariant-loop-variable
invariant-loop-variable l = record {
  value : l.total ≡ fold (λ total v. total +ℤ least_part (coefficient_of v l.sum) (range_at l.self v)) (constant_of l.sum) (take l.variable-index l.variables);
  small : unsigned_abs l.total ≤ 147573952589676412928 + 10141204801825835211973625643008 * l.variable-index;
}
