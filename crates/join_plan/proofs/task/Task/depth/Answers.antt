use Rattle.std.proofs.Common.{◌≡◌, ◌∙◌, ◌≤◌, length, ap, arith}
use Rattle.join_plan.specs.Costs.{stats_of}
use Rattle.join_plan.proofs.TaskLemmas.{depth_is}
use Rattle.join_plan.proofs.task.Task.depth.Goals as goal

pub overflow_cast-result : goal.overflow_cast-result
overflow_cast-result c = record { fits = omega (arith, ap length c.levels.ensures.levels, c.levels.ensures.few) }

pub returns-clause-depth : goal.returns-clause-depth
returns-clause-depth c = ap length c.levels.ensures.levels ∙ depth_is c.args.self.now c.args.reference

pub returns-clause-few : goal.returns-clause-few
returns-clause-few c = omega (arith, ap length c.levels.ensures.levels, c.levels.ensures.few)
