use Rattle.loop_query.proofs.ActivityLemmas.{active_terms_sum, inactive_terms_add_nothing}
use Rattle.loop_query.proofs.laws.active_terms_sum.Goals as goal

pub returns-clause-inactive : goal.returns-clause-inactive
returns-clause-inactive c = inactive_terms_add_nothing

pub returns-clause-sum : goal.returns-clause-sum
returns-clause-sum c = active_terms_sum
