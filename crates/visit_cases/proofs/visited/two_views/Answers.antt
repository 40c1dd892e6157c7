use Rattle.std.proofs.Common.{[], ◌∷◌, ◌++◌, map, sym, ap, ◌∙◌, subst}
use Rattle.visits.specs.Ways.{IsWay}
use Rattle.visit_cases.specs.Plans.{pair_way}
use Rattle.visit_cases.proofs.PlanLemmas.{pair_is_way}
use Rattle.visit_cases.proofs.visited.two_views.Goals as goal

pub returns-in-Ok-push : goal.returns-in-Ok-push
returns-in-Ok-push g c =
    subst (λ vs. IsWay pair_way (map g.V.Access.tree vs))
    (sym (c.in-Ok-push.ensures.ok ∙ ap (λ vs. vs ++ c.args.right ∷ []) (c.in-Ok.ensures.ok ∙ ap (λ vs. vs ++ c.args.left ∷ []) c.new-views.ensures)))
    (pair_is_way (g.V.Access.tree c.args.left) (g.V.Access.tree c.args.right) (g.met.V.Access.lawful c.args.left) (g.met.V.Access.lawful c.args.right)
    c.requires.left_depth c.requires.right_depth c.requires.left_ordered c.requires.right_ordered)
