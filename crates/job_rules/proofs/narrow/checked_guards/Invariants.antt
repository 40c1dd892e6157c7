use Rattle.std.proofs.Common.{◌≡◌, map, take}
use Rattle.job_rules.specs.After.{checked_guard}
use Rattle.job_rules.proofs.narrow.checked_guards.Given as goal

abbrev pub invariant-loop-guard : goal.invariant-loop-guard
invariant-loop-guard l = l.checked ≡ map (checked_guard l.scope) (take l.guard-index l.guards)
