use Rattle.std.proofs.Common.{◌∙◌, [], ◌∷◌, ◌++◌, map, sym, ap}
use Rattle.std.proofs.Math.Nat.{zero-add}
use Rattle.std.specs.List.{range_with_len}
use Rattle.std.proofs.lemmas.List.FromFn.{map-range_with_len_more}
use Rattle.job_plans.specs.Least.{measured_at}
use Rattle.job_plans.proofs.measuring.measured.Goals as goal

pub loop-number-preserved : goal.loop-number-preserved
loop-number-preserved c =
    let f = measured_at c.args.job.now c.args.matrices.now in
    c.in_ok-push.ensures.ok
    ∙ ap (λ xs. xs ++ c.in_ok-measured_at.field-0 ∷ []) c.loop-number.invariant
    ∙ ap (λ s. map f (range_with_len 0 c.loop-number.number) ++ s ∷ []) c.in_ok-measured_at.ensures
    ∙ sym (map-range_with_len_more f 0 c.loop-number.number c.loop-number.number (zero-add c.loop-number.number))
