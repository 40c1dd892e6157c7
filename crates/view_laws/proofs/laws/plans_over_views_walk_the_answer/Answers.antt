use Rattle.view_laws.proofs.ViewLemmas.{plans-over_views-walk_the_answer}
use Rattle.view_laws.proofs.laws.plans_over_views_walk_the_answer.Goals as goal

pub returns : goal.returns
returns c = plans-over_views-walk_the_answer
