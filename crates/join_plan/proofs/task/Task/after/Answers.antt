use Rattle.std.proofs.Common.{◌≡◌, ◌∙◌, ◌++◌, ℕ, List, true, sym, ap, subst, arith}
use Rattle.term_model.specs.Plans.{Known, SparseRef, after_step, bound_flat, deeper, is_ready, sparse_at, waiting}
use Rattle.loop_query.proofs.PlanLemmas.{merged}
use Rattle.join_plan.specs.Progress.{Knows, Marks}
use Rattle.join_plan.specs.Tasks.{query_in}
use Rattle.join_plan.proofs.StepLemmas.{deeper_small, drive_small, flat_small, marks_flat}
use Rattle.join_plan.proofs.task.Task.after.Goals as goal

pub returns-in-Drive : goal.returns-in-Drive
returns-in-Drive c = λ k knows ready.
    let q = query_in c.args.self.now in
    let small = drive_small q k c.in-Drive.reference c.in-Drive.level c.in-Drive.var c.requires.few (subst (λ s. is_ready q k s ≡ true) c.in-Drive.is ready) in
    subst (λ s. Knows (after_step q k s) (record { bound = c.with_mark-in-Drive.result; located = c.deepened.result })) (sym c.in-Drive.is)
    (record { bound = c.with_mark-in-Drive.ensures k.bound knows.bound; located = c.deepened.ensures k.located knows.located (omega (arith, small)) })

pub returns-in-DriveFlat : goal.returns-in-DriveFlat
returns-in-DriveFlat c = λ k knows ready.
    let q = query_in c.args.self.now in
    let small = flat_small q k c.in-DriveFlat.reference c.requires.few (subst (λ s. is_ready q k s ≡ true) c.in-DriveFlat.is ready) in
    let s : SparseRef = sparse_at q c.in-DriveFlat.reference in
    let subscripts = c.reference-subscripts.result.now in
    let row : Marks (waiting k.bound subscripts.row ++ k.bound) c.marked-row.result = c.marked-row.ensures k.bound knows.bound in
    let flat = marks_flat k.bound (record s { row = subscripts.row; col = subscripts.col }) c.marked.result (c.marked.ensures (waiting k.bound subscripts.row ++ k.bound) row) in
    let by_row = subst (λ f. Marks (bound_flat k.bound (record s { row = f; col = subscripts.col }) ++ k.bound) c.marked.result) c.reference-subscripts.ensures.row flat in
    subst (λ s. Knows (after_step q k s) (record { bound = c.marked.result; located = c.deepened-in-DriveFlat.result })) (sym c.in-DriveFlat.is)
    (record { bound = subst (λ f. Marks (bound_flat k.bound (record s { col = f }) ++ k.bound) c.marked.result) c.reference-subscripts.ensures.col by_row; located = c.deepened-in-DriveFlat.ensures k.located knows.located (omega (arith, small)) })

pub returns-in-Merge : goal.returns-in-Merge
returns-in-Merge c = λ k knows ready.
    let q = query_in c.args.self.now in
    let m = c.in-Merge in
    let parts = merged q k m.left m.left_level m.right m.right_level m.var (subst (λ s. is_ready q k s ≡ true) m.is ready) in
    let left = drive_small q k m.left m.left_level m.var c.requires.few parts.0 in
    let right = drive_small q k m.right m.right_level m.var c.requires.few parts.1 in
    subst (λ s. Knows (after_step q k s) (record { bound = c.with_mark-in-Merge.result; located = c.deepened-in-Merge.result })) (sym m.is)
    (record {
      bound = c.with_mark-in-Merge.ensures k.bound knows.bound;
      located = c.deepened-in-Merge.ensures (deeper m.right k.located) (c.deepened-located.ensures k.located knows.located (omega (arith, right))) (deeper_small k.located m.right m.left left);
    })
