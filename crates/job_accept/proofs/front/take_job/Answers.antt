use Rattle.std.proofs.Common.{List, ℕ, Result, Ok, Err, IfOk}
use Rattle.bern_base.specs.declared.job.Checked.{Checked}
use Rattle.bern_base.specs.declared.raw.JobText.{JobText}
use Rattle.job_rules.specs.First.{Accepts}
use Rattle.job_rules.specs.declared.job.CheckError.{CheckError}
use Rattle.job_model.specs.Accepted.{IsAccepted}
use Rattle.job_accept.specs.Front.{IsReadAs}
use Rattle.job_accept.proofs.ReadableLemmas.{job_readable}
use Rattle.job_accept.proofs.AnswerLemmas.{bytes_are_accepted}
use Rattle.job_accept.proofs.front.take_job.Goals as goal

taken_keeps : (bytes : List ℕ) (text : JobText) (taken : Result Checked CheckError) → IsReadAs bytes text → IfOk taken (Accepts text) → IfOk taken IsAccepted
taken_keeps bytes text (Ok job) read accepts = bytes_are_accepted bytes job (text, read, accepts)
taken_keeps bytes text (Err error) read accepts = tt

pub check_job-requires : goal.check_job-requires
check_job-requires c = job_readable c.args.bytes.now c.in-Ok.text c.in-Ok.ensures.read.is

pub returns-in-Ok-clause-keeps : goal.returns-in-Ok-clause-keeps
returns-in-Ok-clause-keeps c = taken_keeps c.args.bytes.now c.in-Ok.text c.check_job.result c.in-Ok.ensures.read c.check_job.ensures.accepted
