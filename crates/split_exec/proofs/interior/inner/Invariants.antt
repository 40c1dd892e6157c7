use Rattle.std.proofs.Common.{◌+◌, ◌≤◌, take, ℕ}
use Rattle.std.specs.List.{sum_by}
use Rattle.node_prog.specs.Visiting.{term_course}
use Rattle.plan_courses.specs.PlanCourses.{origin}
use Rattle.term_model.specs.declared.plan.PlannedTerm.{PlannedTerm}
use Rattle.walks.specs.Courses.{walk}
use Rattle.split_exec.specs.Hits.{Grow, hits_add}
use Rattle.split_exec.specs.Passing.{pass_budget}
use Rattle.split_exec.specs.Settings.{Setting, scene_of, setting}
use Rattle.split_exec.proofs.interior.inner.Given as goal

abbrev pub invariant-terms : goal.invariant-terms
invariant-terms g l =
    let s : Setting = setting g.P.Placement.triples g.P.Placement.ranks g.V.Access.tree g.V.Cells.grid l.job l.places l.nest l.stores in record {
      grows : Grow l.fn.delta l.delta (λ (k : ℕ). sum_by (λ (p : PlannedTerm). hits_add s l.rank p.term (walk (term_course (scene_of s p) l.rank) origin) k) (take l.at l.planned));
      cost : l.steps ≤ l.fn.steps + pass_budget s l.rank (take l.at l.planned);
    }
