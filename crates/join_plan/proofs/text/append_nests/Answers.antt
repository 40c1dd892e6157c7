use Rattle.join_plan.specs.PlanText.{numbered_text}
use Rattle.join_plan.proofs.TextLemmas.{piece_more}
use Rattle.join_plan.proofs.text.append_nests.Goals as goal

pub loop-number-preserved : goal.loop-number-preserved
loop-number-preserved c =
    piece_more (numbered_text c.args.job.now c.args.plans.now) c.args.out.now c.loop-number.out _ c.loop-number.number
    c.loop-number.invariant c.in_ok-append_nest.ensures
