use Rattle.std.proofs.Common.{◌∙◌, sym, ap}
use Rattle.job_rules.specs.Known.{lookup}
use Rattle.job_rules.proofs.NameLemmas.{lookup_view}
use Rattle.job_rules.proofs.names.Names.find.Goals as goal

pub returns : goal.returns
returns c = c.copied.ensures ∙ c.get.ensures.value ∙ sym (lookup_view c.args.name.now c.self.inside.table.entries) ∙ ap (lookup c.args.name.now) c.self.view_is
