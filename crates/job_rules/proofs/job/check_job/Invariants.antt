use Rattle.std.proofs.Common.{drop}
use Rattle.job_rules.specs.First.{Leads}
use Rattle.job_rules.proofs.job.check_job.Given as goal

abbrev pub invariant-loop-line : goal.invariant-loop-line
invariant-loop-line l = Leads l.draft (drop l.line-index l.line-items) l.text
