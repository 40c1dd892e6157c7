use Rattle.std.proofs.Common.{◌≡◌, ◌∙◌, ℕ, List, [], Option, Some, None, sym, ap, subst}
use Rattle.std.specs.Option.{unwrap_or}
use Rattle.term_model.specs.Plans.{Query, due_searches, first_known, plans, start}
use Rattle.join_plan.specs.Costs.{Measures, weight_of}
use Rattle.join_plan.specs.Least.{IsFirstOfLeast}
use Rattle.join_plan.specs.Picks.{pick, priced, seen}
use Rattle.join_plan.specs.Tasks.{measures_in, query_in}
use Rattle.join_plan.proofs.LeastLemmas.{found_is, least_of}
use Rattle.join_plan.proofs.scheduling.least.Goals as goal

pub returns-clause-least : goal.returns-clause-least
returns-clause-least c =
    let q : Query = query_in c.args.task.now in
    let m : Measures = measures_in c.args.task.now in
    let begun = c.beginning.ensures in
    let weight : c.from.result ≡ weight_of m (due_searches q (first_known q)) = c.from.ensures ∙ c.search-searched.ensures.weight (first_known q) begun in
    let picked = c.explore.ensures.best (start q) (c.search-searched.ensures.progress (first_known q) begun) in
    let all : seen c.explore.new.best ≡ pick (priced q m (start q) 1 (weight_of m (due_searches q (first_known q))) []) None (plans q) =
    picked ∙ ap (λ w. pick (priced q m (start q) 1 w c.new-prefix.result.items) (seen c.new-best.result) (plans q)) weight
    ∙ ap (λ p. pick (priced q m (start q) 1 (weight_of m (due_searches q (first_known q))) p) (seen c.new-best.result) (plans q)) c.new-prefix.ensures.items
    ∙ ap (λ b. pick (priced q m (start q) 1 (weight_of m (due_searches q (first_known q))) []) b (plans q)) c.new-best.ensures.none in
    let (found, is, first) = least_of q m (seen c.explore.new.best) all in
    let parts = found_is c.explore.new.best.cost c.explore.new.best.steps.items found is in
    let cost : c.unwrap_or.result ≡ found.cost = c.unwrap_or.ensures ∙ ap (λ o. unwrap_or o 0) parts.0 in
    subst (λ n. IsFirstOfLeast q m c.explore.new.best.steps.items n) (sym cost) (subst (λ ss. IsFirstOfLeast q m ss found.cost) (sym parts.1) first)
