use Rattle.std.proofs.Common.{◌≡◌, ◌++◌, ◌+◌, ◌-◌, List, ℕ, get_or, length, map, sym, ap, ◌∙◌, subst, arith}
use Rattle.bern_base.specs.Matrix.{IsMatrix}
use Rattle.bern_base.specs.declared.axes.Axis.TheVariants as axis
use Rattle.bern_base.specs.declared.matrix.Entry.{Entry}
use Rattle.format_model.specs.Elements.{line_element}
use Rattle.stores_packed.specs.Lines.{stretch}
use Rattle.stores_shaped.specs.Permuted.{HasRowsInOrder}
use Rattle.stores_shaped.proofs.ArrangeLemmas.{IsRow, arranged, arranged_count, arranged_is_matrix, arranged_matrix, arranged_more, arranged_rows, block, row_filled}
use Rattle.stores_shaped.proofs.OrderLemmas.{rows_of_order}
use Rattle.stores_shaped.proofs.arranging.rows_in_order.Goals as goal

pub push_row-requires-clause-row : goal.push_row-requires-clause-row
push_row-requires-clause-row c =
    let order = c.args.order.now in
    let f = c.in_ok-filled.filled in
    let place = c.placing.place in
    let long = ap length c.as_slice-rows.ensures in
    let low = (rows_of_order order c.requires.order).below place (omega (arith, long)) in
    let is : IsRow c.args.part.now f.starts.items f.indices.items f.values.items (get_or order place 0) =
    row_filled c.args.part.now f.starts.items f.indices.items f.values.items (get_or order place 0) c.in_ok-filled.ensures (omega (arith, low, c.requires.long)) in
    (subst (λ (xs : List ℕ). IsRow c.args.part.now f.starts.items f.indices.items f.values.items (get_or xs place 0)) (sym c.as_slice-rows.ensures) is).there

pub push_row-requires-clause-order : goal.push_row-requires-clause-order
push_row-requires-clause-order c =
    let order = c.args.order.now in
    let f = c.in_ok-filled.filled in
    let place = c.placing.place in
    let long = ap length c.as_slice-rows.ensures in
    let low = (rows_of_order order c.requires.order).below place (omega (arith, long)) in
    let is : IsRow c.args.part.now f.starts.items f.indices.items f.values.items (get_or order place 0) =
    row_filled c.args.part.now f.starts.items f.indices.items f.values.items (get_or order place 0) c.in_ok-filled.ensures (omega (arith, low, c.requires.long)) in
    (subst (λ (xs : List ℕ). IsRow c.args.part.now f.starts.items f.indices.items f.values.items (get_or xs place 0)) (sym c.as_slice-rows.ensures) is).order

pub push_row-requires-clause-within : goal.push_row-requires-clause-within
push_row-requires-clause-within c =
    let order = c.args.order.now in
    let f = c.in_ok-filled.filled in
    let place = c.placing.place in
    let long = ap length c.as_slice-rows.ensures in
    let low = (rows_of_order order c.requires.order).below place (omega (arith, long)) in
    let is : IsRow c.args.part.now f.starts.items f.indices.items f.values.items (get_or order place 0) =
    row_filled c.args.part.now f.starts.items f.indices.items f.values.items (get_or order place 0) c.in_ok-filled.ensures (omega (arith, low, c.requires.long)) in
    (subst (λ (xs : List ℕ). IsRow c.args.part.now f.starts.items f.indices.items f.values.items (get_or xs place 0)) (sym c.as_slice-rows.ensures) is).within

pub placing-preserved : goal.placing-preserved
placing-preserved c =
    let order = c.args.order.now in
    let m = c.args.part.now in
    let f = c.in_ok-filled.filled in
    let place = c.placing.place in
    let long = ap length c.as_slice-rows.ensures in
    let low = (rows_of_order order c.requires.order).below place (omega (arith, long)) in
    let is : IsRow m f.starts.items f.indices.items f.values.items (get_or order place 0) =
    row_filled m f.starts.items f.indices.items f.values.items (get_or order place 0) c.in_ok-filled.ensures (omega (arith, low, c.requires.long)) in
    c.in_ok-push_row.ensures
    ∙ ap (λ (xs : List ℕ). c.placing.entries.items ++ map (line_element axis.Row place) (stretch f.indices.items f.values.items (get_or f.starts.items (get_or xs place 0) 0) (get_or f.starts.items (get_or xs place 0 + 1) 0 - get_or f.starts.items (get_or xs place 0) 0))) c.as_slice-rows.ensures
    ∙ ap (λ ls. c.placing.entries.items ++ map (line_element axis.Row place) ls) is.leaves
    ∙ ap (λ (xs : List Entry). xs ++ block order m place) c.placing.invariant
    ∙ sym (arranged_more order m place)

pub returns-clause-matrix : goal.returns-clause-matrix
returns-clause-matrix c =
    let m = c.args.part.now in
    let order = c.args.order.now in
    let last : c.placing.place ≡ length order = omega (arith, ap length c.as_slice-rows.ensures) in
    subst (λ (es : List Entry). IsMatrix (arranged_matrix m es)) (sym (c.from_vec.ensures ∙ c.placing.invariant ∙ ap (arranged order m) last)) (arranged_is_matrix order m c.requires.part c.requires.long)

pub returns-clause-count : goal.returns-clause-count
returns-clause-count c =
    let m = c.args.part.now in
    let order = c.args.order.now in
    let last : c.placing.place ≡ length order = omega (arith, ap length c.as_slice-rows.ensures) in
    ap length (c.from_vec.ensures ∙ c.placing.invariant ∙ ap (arranged order m) last) ∙ arranged_count order m c.requires.part c.requires.order c.requires.long

pub returns-clause-rows : goal.returns-clause-rows
returns-clause-rows c =
    let m = c.args.part.now in
    let order = c.args.order.now in
    let last : c.placing.place ≡ length order = omega (arith, ap length c.as_slice-rows.ensures) in
    subst (λ (es : List Entry). HasRowsInOrder order m (arranged_matrix m es)) (sym (c.from_vec.ensures ∙ c.placing.invariant ∙ ap (arranged order m) last)) (arranged_rows order m c.requires.part c.requires.long)
