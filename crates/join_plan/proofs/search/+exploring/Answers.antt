use Rattle.std.proofs.Common.{◌≡◌, ◌∙◌, ℕ, ◌+◌, ◌<◌, ◌≤◌, true, false, List, [], ◌∷◌, ◌++◌, length, take, map, Some, get_or, refl, sym, ap, subst, arith}
use Rattle.std.specs.List.{flat_map, range_with_len}
use Rattle.std.proofs.lemmas.List.{length-map, take_all, take_more}
use Rattle.loop_query.proofs.FreeLemmas.{not_true}
use Rattle.term_model.specs.declared.plan.PlanStep.{PlanStep}
use Rattle.term_model.specs.Plans.{Known, Query, after_step, candidates, drives, is_bound, is_ready, merges, next, places, plans_from, ranges}
use Rattle.term_model.specs.Queries.{levels_by, sparse_ref}
use Rattle.join_plan.specs.Costs.{Measures}
use Rattle.join_plan.specs.Picks.{IsCheap, beats, following, pick, priced, seen}
use Rattle.join_plan.specs.Progress.{Knows}
use Rattle.join_plan.specs.Tasks.{measures_in, query_in}
use Rattle.join_plan.proofs.PickLemmas.{all_bound, keeps_more, none_better, not_false, not_ready, plans_more, plans_none, spent_small, step_tried, table_more, tried_more}
use Rattle.join_plan.proofs.search.+exploring.Goals as goal

-- ---- one step

pub attempt-returns-then-not-is_ready-clause-best : goal.attempt-returns-then-not-is_ready-clause-best
attempt-returns-then-not-is_ready-clause-best turn c = λ k knows.
    let q : Query = query_in c.args.task.now in
    ap (pick (priced q (measures_in c.args.task.now) k c.args.spent.many c.args.spent.cost c.args.prefix.now.items) (seen c.args.best.now))
    (sym (not_ready q c.args.left k c.args.step (sym (c.is_ready.ensures k knows) ∙ c.if-not-is_ready.true)))

pub attempt-returns-clause-best : goal.attempt-returns-clause-best
attempt-returns-clause-best turn c = λ k knows.
    let q : Query = query_in c.args.task.now in
    let m : Measures = measures_in c.args.task.now in
    let ready : is_ready q k c.args.step ≡ true = sym (c.is_ready.ensures k knows) ∙ c.if-not-is_ready.false in
    let after = c.after-after.ensures k knows ready in
    step_tried q m c.args.left k c.args.spent.many c.args.spent.cost c.args.prefix.now.items c.args.step (seen c.args.best.now) (seen c.explore.new.best)
    c.keeps.result c.offers.result c.search-searched.result.weight c.pay-paid.result.many c.pay-paid.result.cost c.push_reserved.new.self.items
    ready (c.keeps.ensures.keeps k knows) (c.offers.ensures.offers k knows) (c.search-searched.ensures.weight (after_step q k c.args.step) after)
    c.pay-paid.ensures.many c.pay-paid.ensures.cost c.push_reserved.ensures.items
    (c.explore.ensures.best (next q k c.args.step) (c.search-searched.ensures.progress (after_step q k c.args.step) after))

-- ---- some steps

pub attempt_all-loop-step-preserved : goal.attempt_all-loop-step-preserved
attempt_all-loop-step-preserved turn c =
    let inv = c.loop-step.invariant in (
      keeps_more c.args.prefix.now c.args.best.now c.loop-step.prefix c.loop-step.best c.attempt.new.prefix c.attempt.new.best inv.0 c.attempt.ensures.keeps,
      (λ k knows.
          let q : Query = query_in c.args.task.now in
          let m : Measures = measures_in c.args.task.now in
          tried_more q m k c.args.spent.many c.args.spent.cost c.args.left c.args.prefix.now.items c.loop-step.prefix.items (seen c.args.best.now) (seen c.loop-step.best) (seen c.attempt.new.best)
          (take c.loop-step.step-index c.args.steps.now) _ inv.0.steps (inv.1 k knows) (c.attempt.ensures.best k knows)
          ∙ ap (λ ss. pick (priced q m k c.args.spent.many c.args.spent.cost c.args.prefix.now.items) (seen c.args.best.now) (following q c.args.left k ss))
          (sym (take_more c.args.steps.now c.loop-step.step-index _ c.loop-step-test.true))),
    )

pub attempt_all-returns-clause-best : goal.attempt_all-returns-clause-best
attempt_all-returns-clause-best turn c = λ k knows.
    let q : Query = query_in c.args.task.now in
    let m : Measures = measures_in c.args.task.now in
    c.loop-step.invariant.1 k knows
    ∙ ap (λ ss. pick (priced q m k c.args.spent.many c.args.spent.cost c.args.prefix.now.items) (seen c.args.best.now) (following q c.args.left k ss))
    (take_all c.loop-step.step-index c.args.steps.now (omega (arith, c.loop-step-test.false)))

-- ---- all ways to go on

pub explore-returns-then-not-is_beaten_by-clause-best : goal.explore-returns-then-not-is_beaten_by-clause-best
explore-returns-then-not-is_beaten_by-clause-best turn c = λ k knows.
    none_better (query_in c.args.task.now) (measures_in c.args.task.now) c.args.left k c.args.spent.many c.args.spent.cost c.args.prefix.now.items (seen c.args.best.now)
    (sym c.is_beaten_by.ensures ∙ c.if-not-is_beaten_by.true)

pub explore-returns-then-is_bound-clause-keeps : goal.explore-returns-then-is_bound-clause-keeps
explore-returns-then-is_bound-clause-keeps turn c = record {
  steps = refl;
  prefix_room = refl;
  best_room = c.keep.ensures.room ∙ sym c.requires.can.room.best_room;
  cheap = λ small. subst IsCheap (sym c.keep.ensures.best) (spent_small c.args.left c.args.spent.many c.args.spent.cost c.requires.can.few c.requires.can.bounded);
}

pub follow-returns-clause-best : goal.follow-returns-clause-best
follow-returns-clause-best turn c = λ k knows.
    let q : Query = query_in c.args.task.now in
    let m : Measures = measures_in c.args.task.now in
    let many = c.args.spent.many in
    let cost = c.args.spent.cost in
    let p0 = c.args.prefix.now.items in
    let front = tried_more q m k many cost c.args.left p0 c.attempt_all.new.prefix.items (seen c.args.best.now) (seen c.attempt_all.new.best) (seen c.follow_drives.new.best) ranges (flat_map (drives k) (places q))
    c.attempt_all.ensures.keeps.steps
    (c.attempt_all.ensures.best k knows ∙ ap (λ ss. pick (priced q m k many cost p0) (seen c.args.best.now) (following q c.args.left k ss)) c.ranges-2.ensures.steps)
    (c.follow_drives.ensures.best k knows) in
    tried_more q m k many cost c.args.left p0 c.follow_drives.new.prefix.items (seen c.args.best.now) (seen c.follow_drives.new.best) (seen c.follow_merges.new.best) (ranges ++ flat_map (drives k) (places q)) _
    (c.follow_drives.ensures.keeps.steps ∙ c.attempt_all.ensures.keeps.steps) front (c.follow_merges.ensures.best k knows)

pub follow_drives-references-preserved : goal.follow_drives-references-preserved
follow_drives-references-preserved turn c =
    let inv = c.references.invariant in (
      omega (arith, c.references-test.true),
      keeps_more c.args.prefix.now c.args.best.now c.references.prefix c.references.best c.attempt_all.new.prefix c.attempt_all.new.best inv.1 c.attempt_all.ensures.keeps,
      (λ k knows.
          let q : Query = query_in c.args.task.now in
          let m : Measures = measures_in c.args.task.now in
          tried_more q m k c.args.spent.many c.args.spent.cost c.args.left c.args.prefix.now.items c.references.prefix.items (seen c.args.best.now) (seen c.references.best) (seen c.attempt_all.new.best)
          (flat_map (drives k) (range_with_len 0 c.references.reference)) (drives k c.references.reference) inv.1.steps (inv.2 k knows)
          (c.attempt_all.ensures.best k knows
          ∙ ap (λ ss. pick (priced q m k c.args.spent.many c.args.spent.cost c.references.prefix.items) (seen c.references.best) (following q c.args.left k ss)) (c.drives-steps.ensures.steps k knows))
          ∙ ap (λ ss. pick (priced q m k c.args.spent.many c.args.spent.cost c.args.prefix.now.items) (seen c.args.best.now) (following q c.args.left k ss))
          (sym (table_more (drives k) c.references.reference))),
    )

pub follow_merges-references-preserved : goal.follow_merges-references-preserved
follow_merges-references-preserved turn c =
    let inv = c.references.invariant in (
      omega (arith, c.references-test.true),
      keeps_more c.args.prefix.now c.args.best.now c.references.prefix c.references.best c.follow_partners.new.prefix c.follow_partners.new.best inv.1 c.follow_partners.ensures.keeps,
      (λ k knows.
          let q : Query = query_in c.args.task.now in
          let m : Measures = measures_in c.args.task.now in
          tried_more q m k c.args.spent.many c.args.spent.cost c.args.left c.args.prefix.now.items c.references.prefix.items (seen c.args.best.now) (seen c.references.best) (seen c.follow_partners.new.best)
          (flat_map (λ r. flat_map (merges k r) (places q)) (range_with_len 0 c.references.reference)) (flat_map (merges k c.references.reference) (places q)) inv.1.steps (inv.2 k knows)
          (c.follow_partners.ensures.best k knows)
          ∙ ap (λ ss. pick (priced q m k c.args.spent.many c.args.spent.cost c.args.prefix.now.items) (seen c.args.best.now) (following q c.args.left k ss))
          (sym (table_more (λ r. flat_map (merges k r) (places q)) c.references.reference))),
    )

pub follow_merges-returns-clause-best : goal.follow_merges-returns-clause-best
follow_merges-returns-clause-best turn c = λ k knows.
    let q : Query = query_in c.args.task.now in
    let m : Measures = measures_in c.args.task.now in
    let all : c.references.reference ≡ length q.sparse =
    omega (arith, c.references.invariant.0, c.references-test.false, c.references-references.ensures.count, length-map c.args.task.now.term.sparse (sparse_ref (levels_by c.args.task.now.stats))) in
    c.references.invariant.2 k knows
    ∙ ap (λ n. pick (priced q m k c.args.spent.many c.args.spent.cost c.args.prefix.now.items) (seen c.args.best.now) (following q c.args.left k (flat_map (λ r. flat_map (merges k r) (places q)) (range_with_len 0 n)))) all

pub follow_partners-partners-preserved : goal.follow_partners-partners-preserved
follow_partners-partners-preserved turn c =
    let inv = c.partners.invariant in (
      omega (arith, c.partners-test.true),
      keeps_more c.args.prefix.now c.args.best.now c.partners.prefix c.partners.best c.attempt_all.new.prefix c.attempt_all.new.best inv.1 c.attempt_all.ensures.keeps,
      (λ k knows.
          let q : Query = query_in c.args.task.now in
          let m : Measures = measures_in c.args.task.now in
          tried_more q m k c.args.spent.many c.args.spent.cost c.args.left c.args.prefix.now.items c.partners.prefix.items (seen c.args.best.now) (seen c.partners.best) (seen c.attempt_all.new.best)
          (flat_map (merges k c.args.reference) (range_with_len 0 c.partners.partner)) (merges k c.args.reference c.partners.partner) inv.1.steps (inv.2 k knows)
          (c.attempt_all.ensures.best k knows
          ∙ ap (λ ss. pick (priced q m k c.args.spent.many c.args.spent.cost c.partners.prefix.items) (seen c.partners.best) (following q c.args.left k ss)) (c.merges-steps.ensures.steps k knows))
          ∙ ap (λ ss. pick (priced q m k c.args.spent.many c.args.spent.cost c.args.prefix.now.items) (seen c.args.best.now) (following q c.args.left k ss))
          (sym (table_more (merges k c.args.reference) c.partners.partner))),
    )
