use Rattle.std.proofs.Common.{◌≡◌, ◌∙◌, ◌<◌, length, get_or, ap, arith}
use Rattle.std.proofs.lemmas.List.{get_or_default}
use Rattle.join_plan.specs.Costs.{no_stat}
use Rattle.join_plan.proofs.TaskLemmas.{depth_is, level_read}
use Rattle.join_plan.proofs.task.Task.stat.Goals as goal

pub bounds-levels-level : goal.bounds-levels-level
bounds-levels-level c = omega (arith, ap length c.levels.ensures.levels, depth_is c.args.self.now c.args.reference, c.requires)

pub returns-clause-stat : goal.returns-clause-stat
returns-clause-stat c =
    get_or_default c.levels.result.now c.args.level _ no_stat (omega (arith, ap length c.levels.ensures.levels, depth_is c.args.self.now c.args.reference, c.requires))
    ∙ ap (λ ls. get_or ls c.args.level no_stat) c.levels.ensures.levels

pub returns-clause-level : goal.returns-clause-level
returns-clause-level c =
    level_read c.args.self.now c.args.reference c.args.level c.levels.result.now _ c.levels.ensures.levels
    (omega (arith, ap length c.levels.ensures.levels, depth_is c.args.self.now c.args.reference, c.requires))

pub returns-clause-modest : goal.returns-clause-modest
returns-clause-modest c = c.levels.ensures.modest c.args.level _ (omega (arith, ap length c.levels.ensures.levels, depth_is c.args.self.now c.args.reference, c.requires))
