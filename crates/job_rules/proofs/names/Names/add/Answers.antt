use Rattle.std.proofs.Common.{◌∙◌, sym, ap}
use Rattle.indexmap.proofs.CallerLemmas.{insert_entry-new}
use Rattle.job_rules.specs.Known.{lookup}
use Rattle.job_rules.proofs.NameLemmas.{lookup_view, insert_view}
use Rattle.job_rules.proofs.names.Names.add.Goals as goal
use Rattle.job_rules.proofs.names.Names.add.Goals.{in-Ok, in-Err}

pub returns-clause-ok : goal.returns-clause-ok
returns-clause-ok c =
    let entries = c.self.inside.table.entries in
    let absent = sym (lookup_view c.args.name.now entries) ∙ ap (lookup c.args.name.now) c.self.view_is ∙ c.requires in
    elim c.match-insert.branch [
      | in-Ok w ↦ rw w.result-is (insert_view entries c.insert.new.self.entries c.args.self.now c.args.name c.args.named c.self.view_is
          ((rw w.in-Ok.is at c.insert.ensures.entries) ∙ insert_entry-new _ c.self.inside.table c.args.name c.args.named absent))
      | in-Err w ↦ rw w.result-is tt
    ]
