use Rattle.std.proofs.Common.{◌≡◌, map, take}
use Rattle.job_rules.specs.After.{checked_span}
use Rattle.job_rules.proofs.narrow.checked_spans.Given as goal

abbrev pub invariant-loop-var : goal.invariant-loop-var
invariant-loop-var l = l.spans ≡ map (checked_span l.scope) (take l.var-index l.vars)
