use Rattle.job_accept.proofs.AnswerLemmas.{one_bytes_answer}
use Rattle.job_accept.proofs.laws.bytes_have_one_answer.Goals as goal

pub returns : goal.returns
returns c = one_bytes_answer
