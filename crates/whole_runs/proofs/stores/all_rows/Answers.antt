use Rattle.std.proofs.Common.{◌≡◌, ◌+◌, ◌∷◌, ◌++◌, [], suc, sym, ap, ◌∙◌, zero-add, arith}
use Rattle.std.specs.List.{range_with_len}
use Rattle.whole_runs.proofs.ListLemmas.{range_push}
use Rattle.whole_runs.proofs.stores.all_rows.Goals as goal

pub loop-row-preserved : goal.loop-row-preserved
loop-row-preserved c =
    let next : c.loop-row.row + 1 ≡ suc c.loop-row.row = omega arith in
    c.in_ok-push.ensures.ok ∙ ap (λ xs. xs ++ c.loop-row.row ∷ []) c.loop-row.invariant
    ∙ ap (λ k. range_with_len 0 c.loop-row.row ++ k ∷ []) (sym (zero-add c.loop-row.row)) ∙ sym (range_push 0 c.loop-row.row) ∙ ap (range_with_len 0) (sym next)
