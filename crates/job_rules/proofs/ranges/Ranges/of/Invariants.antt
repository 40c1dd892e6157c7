use Rattle.std.proofs.Common.{◌≡◌, map, take}
use Rattle.std.specs.List.{All}
use Rattle.job_rules.specs.Sums.{IsSmallRange}
use Rattle.job_rules.specs.Nests.{range_of}
use Rattle.job_rules.proofs.ranges.Ranges.of.Given as goal

abbrev pub invariant-loop-span : goal.invariant-loop-span
invariant-loop-span l = record {
  value : l.ranges ≡ map range_of (take l.span-index l.spans);
  small : All IsSmallRange l.ranges;
}
