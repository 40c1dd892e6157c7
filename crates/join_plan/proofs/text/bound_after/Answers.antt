use Rattle.std.proofs.Common.{◌≡◌, ◌∙◌, ◌++◌, [], ap, sym, subst}
use Rattle.term_model.specs.Plans.{waiting}
use Rattle.join_plan.specs.PlanText.{bound_after, flat_variables}
use Rattle.join_plan.specs.Progress.{Marks}
use Rattle.join_plan.proofs.StepLemmas.{marks_flat}
use Rattle.join_plan.proofs.text.bound_after.Goals as goal

pub returns-in-Some : goal.returns-in-Some
returns-in-Some c = λ vs marks.
    let found = c.in-Some.found.now in
    let flat = marks_flat vs (record { row = found.row; col = found.col; levels = [] }) c.marked-in-Some.result (c.marked-in-Some.ensures (waiting vs found.row ++ vs) (c.marked.ensures vs marks)) in
    subst (λ s. Marks (bound_after c.args.term.now vs s) c.marked-in-Some.result) (sym c.in-DriveFlat.is)
    (subst (λ ref. Marks (flat_variables vs ref ++ vs) c.marked-in-Some.result) c.in-Some.ensures.value flat)
