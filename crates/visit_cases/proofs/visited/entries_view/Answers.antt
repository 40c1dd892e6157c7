use Rattle.std.proofs.Common.{[], ◌∷◌, ◌++◌, map, sym, ap, ◌∙◌, subst}
use Rattle.visits.specs.Ways.{IsWay}
use Rattle.visit_cases.specs.Plans.{entries_way}
use Rattle.visit_cases.proofs.PlanLemmas.{entries_is_way}
use Rattle.visit_cases.proofs.visited.entries_view.Goals as goal

pub returns-in-Ok : goal.returns-in-Ok
returns-in-Ok g c =
    subst (λ vs. IsWay entries_way (map g.V.Access.tree vs)) (sym (c.in-Ok.ensures.ok ∙ ap (λ vs. vs ++ c.args.store ∷ []) c.new-views.ensures))
    (entries_is_way (g.V.Access.tree c.args.store) (g.met.V.Access.lawful c.args.store) c.requires)
