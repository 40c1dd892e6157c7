use Rattle.std.proofs.Common.{◌≡◌, ◌∙◌, ◌++◌, List, ap, arith}
use Rattle.term_model.specs.Plans.{SparseRef, can_solve, sparse_at, waiting}
use Rattle.join_plan.specs.Tasks.{query_in}
use Rattle.join_plan.proofs.MarkLemmas.{solve_is}
use Rattle.join_plan.proofs.task.Task.can_solve.Goals as goal

pub overflow_add-result : goal.overflow_add-result
overflow_add-result c = record { fits = omega (arith, c.waiting-row.ensures.few, c.waiting-col.ensures.few) }

pub returns : goal.returns
returns c = λ vs marks.
    let s : SparseRef = sparse_at (query_in c.args.self.now) c.args.reference in
    let subscripts = c.reference-subscripts.result.now in
    solve_is vs (record s { row = subscripts.row; col = subscripts.col }) c.waiting-row.result.count c.waiting-col.result.count
    (c.waiting-row.ensures.count vs marks)
    (c.waiting-col.ensures.count (waiting vs subscripts.row ++ vs) (c.marked-after.ensures vs marks))
    ∙ ap (λ f. can_solve vs (record s { row = f; col = subscripts.col })) c.reference-subscripts.ensures.row
    ∙ ap (λ f. can_solve vs (record s { col = f })) c.reference-subscripts.ensures.col
