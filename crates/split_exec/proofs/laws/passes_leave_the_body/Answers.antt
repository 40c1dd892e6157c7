use Rattle.split_exec.proofs.RecallLemmas.{passes_leave_the_body}
use Rattle.split_exec.proofs.laws.passes_leave_the_body.Goals as goal

pub returns : goal.returns
returns c = passes_leave_the_body
