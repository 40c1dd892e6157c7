use Rattle.std.proofs.Common.{◌≡◌, ◌≤◌, ℕ, subst, arith}
use Rattle.join_plan.specs.Steps.{FewLevels}
use Rattle.join_plan.specs.Tasks.{query_in}
use Rattle.join_plan.proofs.TaskLemmas.{few_levels}
use Rattle.join_plan.proofs.task.Task.references.Goals as goal

pub returns-clause-levels : goal.returns-clause-levels
returns-clause-levels c = subst (λ task. FewLevels (query_in task)) c.self.view_is (few_levels (record { vars = c.self.inside.vars.now; term = c.self.inside.term.now; stats = c.self.inside.stats.now }) c.self.invariant)
