-- What is left has the same trim as the whole.
use Rattle.std.proofs.Common.{◌≡◌, length}
use Rattle.job_text.specs.Lines.{trimmed}
use Rattle.job_text.proofs.lines.trimmed.Given as goal

abbrev pub invariant-loop-rest : goal.invariant-loop-rest
invariant-loop-rest l = trimmed l.rest ≡ trimmed l.text

abbrev pub decreases-loop-rest : goal.decreases-loop-rest
decreases-loop-rest l = length l.rest
