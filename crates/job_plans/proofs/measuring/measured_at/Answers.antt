use Rattle.bern_base.specs.Matrix.{IsMatrix}
use Rattle.job_plans.proofs.PlanLemmas.{all_there}
use Rattle.job_plans.proofs.measuring.measured_at.Goals as goal

pub stats-requires : goal.stats-requires
stats-requires c = all_there IsMatrix c.args.matrices.now c.args.number c.at.result.now c.requires.matrices c.at.ensures
