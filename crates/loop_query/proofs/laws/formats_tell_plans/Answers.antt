use Rattle.loop_query.proofs.MeasuredLemmas.{formats_tell_plans}
use Rattle.loop_query.proofs.laws.formats_tell_plans.Goals as goal

pub returns : goal.returns
returns c = formats_tell_plans
