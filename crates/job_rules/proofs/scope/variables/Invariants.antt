use Rattle.std.proofs.Common.{◌≡◌, [], take}
use Rattle.std.specs.List.{fold}
use Rattle.job_rules.specs.Looked.{with_variable}
use Rattle.job_rules.proofs.scope.variables.Given as goal

abbrev pub invariant-loop-var : goal.invariant-loop-var
invariant-loop-var l = l.names ≡ fold with_variable [] (take l.var-index l.vars)
