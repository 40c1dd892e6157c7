use Rattle.std.proofs.Common.{◌≡◌, map, take}
use Rattle.job_rules.specs.Looked.{span_of}
use Rattle.job_rules.proofs.scope.NestScope.spans.Given as goal

abbrev pub invariant-loop-var : goal.invariant-loop-var
invariant-loop-var l = l.spans ≡ map (span_of l.self) (take l.var-index l.vars)
