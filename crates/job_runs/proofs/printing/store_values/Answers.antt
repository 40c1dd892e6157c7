use Rattle.std.proofs.Common.{◌∷◌, ◌++◌, [], map, sym, ap, ◌∙◌}
use Rattle.std.proofs.Math.Nat.{zero-add}
use Rattle.std.specs.List.{range_with_len}
use Rattle.std.proofs.lemmas.List.FromFn.{map-range_with_len_more}
use Rattle.format_model.specs.Grids.{value_of_element}
use Rattle.formats.specs.AnyStores.{any_grid}
use Rattle.job_runs.proofs.printing.store_values.Goals as goal

pub loop-element-preserved : goal.loop-element-preserved
loop-element-preserved c =
    let f = value_of_element (any_grid c.args.store.now) in
    c.in_ok-push.ensures.ok
    ∙ ap (λ xs. xs ++ c.cell.result ∷ []) c.loop-element.invariant
    ∙ ap (λ v. map f (range_with_len 0 c.loop-element.element) ++ v ∷ []) c.cell.ensures
    ∙ sym (map-range_with_len_more f 0 c.loop-element.element c.loop-element.element (zero-add c.loop-element.element))
