use Rattle.std.proofs.Common.{◌≡◌, ◌∙◌, ◌<◌, ◌≤◌, ◌+◌, ◌*◌, ℕ, List, length, sym, ap, subst, arith}
use Rattle.std.specs.Prelude.{replicate}
use Rattle.std.proofs.lemmas.List.{length-map}
use Rattle.term_model.specs.Plans.{Known, Query, depth_of, searches}
use Rattle.term_model.specs.Queries.{levels_by, sparse_ref}
use Rattle.join_plan.specs.Costs.{Measures, weight_of}
use Rattle.join_plan.specs.Progress.{Knows, searched_by, tries_before}
use Rattle.join_plan.specs.Tasks.{measures_in, query_in}
use Rattle.join_plan.proofs.SearchLemmas.{all_searched, all_tried, before_more, searched_more, weight_more}
use Rattle.join_plan.proofs.task.Task.search.Goals as goal

pub references-preserved : goal.references-preserved
references-preserved c =
    let q : Query = query_in c.args.self.now in
    let m : Measures = measures_in c.args.self.now in
    let r : ℕ = c.references.reference in
    let inv = c.references.invariant in
    let next = c.search_reference-next in
    let more : List ℕ = replicate (depth_of q r) r in (
      omega (arith, c.references-test.true),
      omega (arith, inv.1, next.ensures.modest),
      (λ k knows.
          subst (λ xs. Knows (searched_by q k xs) next.result.progress) (sym (before_more q r))
          (subst (λ known. Knows known next.result.progress) (sym (searched_more q k (tries_before q r) more)) (next.ensures.progress (searched_by q k (tries_before q r)) (inv.2 k knows)))),
      (λ k knows.
          ap (λ w. w + next.result.weight) (inv.3 k knows)
          ∙ ap (λ w. weight_of m (searches q k (tries_before q r)) + w) (next.ensures.weight (searched_by q k (tries_before q r)) (inv.2 k knows))
          ∙ sym (weight_more q m k (tries_before q r) more)
          ∙ ap (λ xs. weight_of m (searches q k xs)) (sym (before_more q r))),
    )

pub returns-clause-progress : goal.returns-clause-progress
returns-clause-progress c = λ k knows.
    let q : Query = query_in c.args.self.now in
    let all : c.references.reference ≡ length q.sparse =
    omega (arith, c.references.invariant.0, c.references-test.false, c.references-references.ensures.count, length-map c.args.self.now.term.sparse (sparse_ref (levels_by c.args.self.now.stats))) in
    subst (λ known. Knows known c.references.found.progress) (all_searched q k) (subst (λ n. Knows (searched_by q k (tries_before q n)) c.references.found.progress) all (c.references.invariant.2 k knows))

pub returns-clause-weight : goal.returns-clause-weight
returns-clause-weight c = λ k knows.
    let q : Query = query_in c.args.self.now in
    let m : Measures = measures_in c.args.self.now in
    let all : c.references.reference ≡ length q.sparse =
    omega (arith, c.references.invariant.0, c.references-test.false, c.references-references.ensures.count, length-map c.args.self.now.term.sparse (sparse_ref (levels_by c.args.self.now.stats))) in
    c.references.invariant.3 k knows ∙ ap (λ n. weight_of m (searches q k (tries_before q n))) all ∙ ap (weight_of m) (all_tried q k)
