use Rattle.std.proofs.Common.{◌≡◌, drop}
use Rattle.std.specs.List.{list_any}
use Rattle.job_rules.specs.Nests.{leaves_array}
use Rattle.job_rules.proofs.nest_rules.some_leaves_array.Given as goal

abbrev pub invariant-loop-reference : goal.invariant-loop-reference
invariant-loop-reference l = list_any (leaves_array l.job l.ranges) (drop l.reference-index l.refs) ≡ list_any (leaves_array l.job l.ranges) l.refs
