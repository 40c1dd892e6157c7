use Rattle.std.proofs.Common.{◌≡◌, ◌∙◌, ◌++◌, ◌+◌, List, ℕ, Some, slice_get, sym, ap, append_assoc}
use Rattle.join_plan.specs.PlanText.{planned_text, steps_text, unused}
use Rattle.join_plan.proofs.TextLemmas.{piece_more}
use Rattle.join_plan.proofs.text.append_terms.Goals as goal

pub loop-place-preserved : goal.loop-place-preserved
loop-place-preserved c =
    let job = c.args.job.now in
    let nest = c.args.nest.now in
    let planned = c.at-planned.result.now in
    piece_more (λ place. planned_text job c.args.number nest place (slice_get c.args.terms.now place)) c.args.out.now c.loop-place.out _ c.loop-place.place c.loop-place.invariant
    (c.in_ok-append_steps.ensures
    ∙ ap (λ steps. c.append_head.new.out ++ steps_text job nest planned.term (unused nest) steps) c.as_slice.ensures
    ∙ ap (λ o. o ++ steps_text job nest planned.term (unused nest) planned.plan.steps) c.in_ok-append_head.ensures
    ∙ append_assoc c.loop-place.out _ (steps_text job nest planned.term (unused nest) planned.plan.steps)
    ∙ ap (λ found. c.loop-place.out ++ planned_text job c.args.number nest c.loop-place.place found) (sym c.at-planned.ensures))
