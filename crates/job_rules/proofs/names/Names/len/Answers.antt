use Rattle.std.proofs.Common.{◌∙◌, length, sym, ap}
use Rattle.std.proofs.lemmas.List.{length-map}
use Rattle.job_rules.specs.Known.{seen}
use Rattle.job_rules.proofs.names.Names.len.Goals as goal

pub returns : goal.returns
returns c = c.len.ensures.len ∙ sym (length-map c.self.inside.table.entries seen) ∙ ap length c.self.view_is
