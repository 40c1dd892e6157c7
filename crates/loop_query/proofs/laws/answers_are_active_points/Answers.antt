use Rattle.loop_query.proofs.AnswerLemmas.{answers_are_active_points}
use Rattle.loop_query.proofs.laws.answers_are_active_points.Goals as goal

pub returns : goal.returns
returns c = answers_are_active_points
