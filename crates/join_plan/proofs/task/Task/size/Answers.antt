use Rattle.std.proofs.Common.{◌≡◌, sym, subst}
use Rattle.join_plan.specs.Costs.{size_of}
use Rattle.job_model.specs.Points.{bounds_at}
use Rattle.join_plan.proofs.TaskLemmas.{unused_size}
use Rattle.join_plan.proofs.task.Task.size.Goals as goal

pub returns-in-None-clause-size : goal.returns-in-None-clause-size
returns-in-None-clause-size c =
    subst (λ task. 1 ≡ size_of (bounds_at task.vars c.args.var)) c.self.view_is (unused_size c.self.inside.vars.now c.args.var (sym c.in-None.ensures.value))
