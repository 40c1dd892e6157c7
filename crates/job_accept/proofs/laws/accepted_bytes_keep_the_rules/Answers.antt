use Rattle.job_accept.proofs.AnswerLemmas.{bytes_are_accepted}
use Rattle.job_accept.proofs.laws.accepted_bytes_keep_the_rules.Goals as goal

pub returns : goal.returns
returns c = bytes_are_accepted
