use Rattle.job_rules.proofs.AnswerLemmas.{one_answer}
use Rattle.job_rules.proofs.laws.a_text_has_one_answer.Goals as goal

pub returns : goal.returns
returns c = one_answer
