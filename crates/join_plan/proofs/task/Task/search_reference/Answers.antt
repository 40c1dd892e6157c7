use Rattle.std.proofs.Common.{◌≡◌, ◌∙◌, ◌<◌, ◌≤◌, ◌+◌, ℕ, true, false, [], ◌∷◌, sym, ap, subst, arith}
use Rattle.std.specs.Prelude.{replicate}
use Rattle.std.proofs.lemmas.Bool.{eqb-true}
use Rattle.term_model.specs.Plans.{Known, depth_of, searches}
use Rattle.join_plan.specs.Costs.{weight_of}
use Rattle.join_plan.specs.Progress.{Knows, searched_by}
use Rattle.join_plan.specs.Tasks.{measures_in, query_in}
use Rattle.join_plan.proofs.SearchLemmas.{searched_more, weight_more}
use Rattle.join_plan.proofs.task.Task.search_reference.Goals as goal

pub returns-then-depth-eq1-clause-progress : goal.returns-then-depth-eq1-clause-progress
returns-then-depth-eq1-clause-progress c = λ k knows.
    let q = query_in c.args.self.now in
    subst (λ n. Knows (searched_by q k (replicate n c.args.reference)) c.try_search-first.result.progress) (sym c.if-depth-eq1.true ∙ c.depth-depth.ensures.depth)
    (c.try_search-first.ensures.progress k knows)

pub returns-clause-progress : goal.returns-clause-progress
returns-clause-progress c = λ k knows.
    let q = query_in c.args.self.now in
    let r = c.args.reference in
    let two : 2 ≡ depth_of q r = omega (arith, c.if-depth-eq0.false, c.if-depth-eq1.false, c.depth-depth.ensures.depth, c.depth-depth.ensures.few) in
    subst (λ n. Knows (searched_by q k (replicate n r)) c.try_search-second.result.progress) two
    (subst (λ known. Knows known c.try_search-second.result.progress) (sym (searched_more q k (r ∷ []) (r ∷ [])))
    (c.try_search-second.ensures.progress (searched_by q k (r ∷ [])) (c.try_search-first.ensures.progress k knows)))

pub returns-clause-weight : goal.returns-clause-weight
returns-clause-weight c = λ k knows.
    let q = query_in c.args.self.now in
    let m = measures_in c.args.self.now in
    let r = c.args.reference in
    let two : 2 ≡ depth_of q r = omega (arith, c.if-depth-eq0.false, c.if-depth-eq1.false, c.depth-depth.ensures.depth, c.depth-depth.ensures.few) in
    ap (λ w. w + c.try_search-second.result.weight) (c.try_search-first.ensures.weight k knows)
    ∙ ap (λ w. weight_of m (searches q k (r ∷ [])) + w) (c.try_search-second.ensures.weight (searched_by q k (r ∷ [])) (c.try_search-first.ensures.progress k knows))
    ∙ sym (weight_more q m k (r ∷ []) (r ∷ []))
    ∙ ap (λ n. weight_of m (searches q k (replicate n r))) two
