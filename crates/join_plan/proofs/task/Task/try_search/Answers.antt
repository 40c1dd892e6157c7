use Rattle.std.proofs.Common.{◌≡◌, ◌∙◌, ◌<◌, ◌+◌, ℕ, true, false, sym, ap, subst, arith}
use Rattle.term_model.specs.Plans.{can_search, deeper, depth_of}
use Rattle.join_plan.specs.Progress.{Knows}
use Rattle.join_plan.specs.Tasks.{query_in}
use Rattle.join_plan.proofs.SearchLemmas.{searched_true}
use Rattle.join_plan.proofs.task.Task.try_search.Goals as goal

pub stat-weight-requires : goal.stat-weight-requires
stat-weight-requires c = subst (λ n. n < depth_of (query_in c.args.self.now) c.args.reference) (sym c.next_level-level.ensures.value) (c.can_search.ensures.there c.if-can_search.true)

pub returns-then-can_search-clause-progress : goal.returns-then-can_search-clause-progress
returns-then-can_search-clause-progress c = λ k knows.
    let q = query_in c.args.self.now in
    let there = c.can_search.ensures.there c.if-can_search.true in
    let level = c.next_level-level.ensures.level k knows in
    subst (λ known. Knows known (record { bound = c.args.progress.now.bound; located = c.deepened.result })) (sym (searched_true q k c.args.reference (sym (c.can_search.ensures.ready k knows) ∙ c.if-can_search.true)))
    (record { bound = knows.bound; located = c.deepened.ensures k.located knows.located (omega (arith, there, level, c.next_level-level.ensures.value, c.requires.few c.args.reference)) })
