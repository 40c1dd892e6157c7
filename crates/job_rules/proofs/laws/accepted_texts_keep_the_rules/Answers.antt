use Rattle.job_rules.proofs.AcceptedLemmas.{accepted_keeps}
use Rattle.job_rules.proofs.laws.accepted_texts_keep_the_rules.Goals as goal

pub returns : goal.returns
returns c = accepted_keeps
