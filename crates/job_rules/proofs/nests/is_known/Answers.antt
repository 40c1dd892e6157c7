use Rattle.std.proofs.Common.{◌∙◌, ap}
use Rattle.std.specs.Prelude.{is_some}
use Rattle.job_rules.specs.Known.{lookup}
use Rattle.job_rules.proofs.nests.is_known.Goals as goal

pub returns : goal.returns
returns c = c.is_some.ensures ∙ ap is_some (c.find.ensures ∙ ap (λ name. lookup name c.args.names.now) c.as_bytes.ensures)
