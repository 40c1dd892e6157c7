use Rattle.std.proofs.Common.{◌≡◌, ◌<◌, ◌++◌, ◌∷◌, [], List, cond, length, sym, ap, ◌∙◌, arith}
use Rattle.std.specs.Vec.Iter.{into_iter_items, into_iter_len}
use Rattle.std.proofs.lemmas.Bool.{true≢false}
use Rattle.std.proofs.lemmas.List.{length-drop}
use Rattle.bern_base.specs.declared.matrix.Matrix.{Matrix}
use Rattle.job_files.specs.Uses.{array_matrices, is_array}
use Rattle.job_files.proofs.ArrayLemmas.{left_counts, next_own}
use Rattle.job_files.proofs.arrays.own_matrices.Goals as goal
use Rattle.job_files.proofs.arrays.own_matrices.Goals.{then-is_array+in_ok-push, else-is_array}

pub unreachable-requires : goal.unreachable-requires
unreachable-requires c =
    let some : 0 < into_iter_len c.loop-wanted.loaded =
    omega (arith, c.loop-wanted.invariant.len, c.loop-wanted.invariant.count, length-drop c.loop-wanted.wanted-index c.args.uses.now, c.loop-wanted-test.true) in
    true≢false (sym (c.in-None.ensures.variant.1 some))

pub loop-wanted-preserved : goal.loop-wanted-preserved
loop-wanted-preserved c =
    let uses = c.args.uses.now in
    let u = c.wanted-item.result in
    let done : List Matrix = c.loop-wanted.own in
    let items : List Matrix = into_iter_items c.loop-wanted.loaded in
    let rest : List Matrix = into_iter_items c.next.new.self in
    let next : items ≡ c.in-Some.matrix ∷ rest = c.in-Some.ensures.items in
    let keeps : c.if-is_array.own ≡ cond (is_array u) (done ++ c.in-Some.matrix ∷ []) done =
    elim c.if-is_array.branch [
      | then-is_array+in_ok-push w ↦ w.own-is ∙ w.in_ok-push.ensures.ok ∙ ap (λ b. cond b (done ++ c.in-Some.matrix ∷ []) done) (sym w.if-is_array.true ∙ c.is_array.ensures)
      | else-is_array w ↦ w.own-is ∙ ap (λ b. cond b (done ++ c.in-Some.matrix ∷ []) done) (sym w.if-is_array.false ∙ c.is_array.ensures)
    ] in
    record {
      own = next_own uses c.loop-wanted.wanted-index u done c.if-is_array.own (array_matrices uses c.args.loaded) items rest c.in-Some.matrix c.loop-wanted-test.true c.wanted-item.is c.loop-wanted.invariant.own next keeps;
      count = left_counts uses c.loop-wanted.wanted-index u items rest c.in-Some.matrix c.loop-wanted-test.true c.wanted-item.is c.loop-wanted.invariant.count next;
      len = omega (arith, c.in-Some.ensures.len, c.loop-wanted.invariant.len, ap (λ (ms : List Matrix). length ms) next);
    }
