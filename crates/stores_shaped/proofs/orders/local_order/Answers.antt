use Rattle.std.proofs.Common.{◌≡◌, ◌<◌, ◌++◌, ◌∷◌, ◌==◌, [], None, Option, ℕ, get_or, length, take, sym, ap, ◌∙◌, arith}
use Rattle.std.specs.List.{cons_option, filter_map, position}
use Rattle.std.proofs.lemmas.List.{get_or_read, take_more}
use Rattle.std.proofs.lemmas.List.Elements.{filter_map-append}
use Rattle.stores_shaped.proofs.orders.local_order.Goals as goal

pub keeping-preserved : goal.keeping-preserved
keeping-preserved c =
    let h : ℕ → Option ℕ = λ row. position (λ g. g == row) c.args.globals.now in
    let order = c.args.order.now in
    let i = c.keeping.row-index in
    let locals = c.in_ok-locals.locals.items in
    let row : ℕ = get_or order i 0 in
    let long = ap length c.as_slice-rows.ensures in
    let low : i < length order = omega (arith, long) in
    let at : get_or c.as_slice-rows.result.now i 0 ≡ row = ap (λ xs. get_or xs i 0) c.as_slice-rows.ensures in
    let inside : row < length order = c.requires.order i 0 low in
    let read : c.index.result.now ≡ get_or locals (get_or c.as_slice-rows.result.now i 0) None =
    get_or_read locals (get_or c.as_slice-rows.result.now i 0) c.index.result.now (omega (arith, at, inside, long, c.in_ok-locals.ensures.long)) c.index.ensures None in
    let value : c.index.result.now ≡ h row = read ∙ ap (λ k. get_or locals k None) at ∙ c.in_ok-locals.ensures.numbers row (omega (arith, inside, long)) in
    c.in_ok-push_some.ensures
    ∙ ap (λ o. c.keeping.local.items ++ cons_option o []) value
    ∙ ap (λ xs. xs ++ cons_option (h row) []) c.keeping.invariant
    ∙ sym (filter_map-append h (take i order) (row ∷ []))
    ∙ ap (filter_map h) (sym (take_more order i 0 low))
