use Rattle.loop_query.proofs.ToldLemmas.{terms_are_told_apart, terms_read_the_body}
use Rattle.loop_query.proofs.laws.terms_read_the_body.Goals as goal

pub returns-clause-apart : goal.returns-clause-apart
returns-clause-apart c = terms_are_told_apart

pub returns-clause-body : goal.returns-clause-body
returns-clause-body c = terms_read_the_body
