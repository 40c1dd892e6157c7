use Rattle.std.proofs.Common.{◌∙◌, sym, ap, []}
use Rattle.job_rules.specs.Looked.{sum_of, item_of}
use Rattle.std.specs.Prelude.{map}
use Rattle.job_rules.proofs.ListLemmas.{get_or-none}
use Rattle.job_rules.proofs.scope.NestScope.subscript.Goals as goal

pub returns-in-None : goal.returns-in-None
unfolding sum_of
returns-in-None c =
    let none = get_or-none c.args.reference.now.subs c.args.place (record { items = [] }) (search c.in-None.ensures.value) in
    c.empty.ensures ∙ ap (λ s. map (item_of c.args.self.now) s.items) (sym none)
