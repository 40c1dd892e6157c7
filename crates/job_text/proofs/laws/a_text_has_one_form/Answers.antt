use Rattle.job_text.proofs.FormLemmas.{one_form}
use Rattle.job_text.proofs.laws.a_text_has_one_form.Goals as goal

pub returns : goal.returns
returns c = one_form
