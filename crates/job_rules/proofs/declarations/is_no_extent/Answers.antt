use Rattle.std.proofs.Common.{◌∙◌, not, ap}
use Rattle.job_rules.specs.Known.{lookup}
use Rattle.job_rules.specs.State.{is_extent}
use Rattle.job_rules.proofs.declarations.is_no_extent.Goals as goal

pub returns : goal.returns
returns c = ap not c.is_extent.ensures ∙ ap (λ o. not (is_extent o)) (c.find.ensures ∙ ap (λ name. lookup name c.args.names.now) c.as_bytes.ensures)
