use Rattle.join_plan.proofs.MeasuredLemmas.{can_schedule}
use Rattle.join_plan.proofs.laws.terms_can_be_scheduled.Goals as goal

pub returns : goal.returns
returns c = λ job nest t stats accepted is listed measured. can_schedule job nest t stats accepted is listed measured
