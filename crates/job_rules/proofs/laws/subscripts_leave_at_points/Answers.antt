use Rattle.job_rules.proofs.BoxLemmas.{leaves_at_points}
use Rattle.job_rules.proofs.laws.subscripts_leave_at_points.Goals as goal

pub returns : goal.returns
returns c = leaves_at_points
