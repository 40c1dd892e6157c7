use Rattle.loop_query.proofs.SizeLemmas.{terms_are_few, terms_have_sizes}
use Rattle.loop_query.proofs.laws.terms_are_few.Goals as goal

pub returns-clause-sizes : goal.returns-clause-sizes
returns-clause-sizes c = terms_have_sizes

pub returns-clause-few : goal.returns-clause-few
returns-clause-few c = terms_are_few
