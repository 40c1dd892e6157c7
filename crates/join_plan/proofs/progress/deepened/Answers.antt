use Rattle.join_plan.proofs.StepLemmas.{all_deeper}
use Rattle.join_plan.proofs.progress.deepened.Goals as goal

pub returns : goal.returns
returns c = λ at located small.
    all_deeper at c.args.located.now c.args.reference c.level_after.result c.level_after-2.result c.level_after-3.result c.level_after-4.result located small
    (c.level_after.ensures.deeper, c.level_after.ensures.same) (c.level_after-2.ensures.deeper, c.level_after-2.ensures.same)
    (c.level_after-3.ensures.deeper, c.level_after-3.ensures.same) (c.level_after-4.ensures.deeper, c.level_after-4.ensures.same)
