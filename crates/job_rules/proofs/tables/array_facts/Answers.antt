use Rattle.std.proofs.Common.{◌∙◌, sym, ap, false, Bool}
use Rattle.job_rules.specs.declared.tables.Facts.{Facts}
use Rattle.job_rules.specs.Nests.{facts_at, facts_of, no_array}
use Rattle.job_rules.proofs.ListLemmas.{get_or-none}
use Rattle.job_rules.proofs.tables.array_facts.Goals as goal

without : Bool → Facts
without dense = record { dims = 0; rows = 0; cols = 0; place = 0; by_col = false; dense = dense }

pub returns-in-None : goal.returns-in-None
unfolding facts_at without
returns-in-None c =
    let none = get_or-none c.args.job.now.arrays c.args.array no_array (sym c.in-None.ensures.value) in
    ap without c.is_dense_format-in-None.ensures ∙ ap (facts_of c.args.job.now) (sym none)
