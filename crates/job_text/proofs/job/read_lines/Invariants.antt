-- The forms so far, followed by those of the lines that are left, are those of all lines.
use Rattle.std.proofs.Common.{◌≡◌, ◌+◌, drop}
use Rattle.job_text.specs.Job.{numbered}
use Rattle.job_text.proofs.JobLemmas.{Carries}
use Rattle.job_text.proofs.job.read_lines.Given as goal

abbrev pub invariant-loop-line : goal.invariant-loop-line
invariant-loop-line l = record {
  counts : l.number ≡ l.line-index + 1;
  reads : Carries (numbered 1 l.line-items) l.number (drop l.line-index l.line-items) l.forms;
}
