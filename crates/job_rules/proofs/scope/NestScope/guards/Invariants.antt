use Rattle.std.proofs.Common.{◌≡◌, map, take}
use Rattle.job_rules.specs.Looked.{guard_of}
use Rattle.job_rules.proofs.scope.NestScope.guards.Given as goal

abbrev pub invariant-loop-guard : goal.invariant-loop-guard
invariant-loop-guard l = l.resolved ≡ map (guard_of l.self) (take l.guard-index l.guards)
