use Rattle.std.proofs.Common.{◌≡◌, ℕ, ◌+◌, ◌<◌, ◌≤◌, ◌^◌, List, get_or, length, set, sym, subst, ap, ◌∙◌, arith}
use Rattle.std.proofs.Math.ListN.{length-set}
use Rattle.stores_shaped.specs.Orders.{IsInverse}
use Rattle.stores_shaped.proofs.OrderLemmas.{few_rows, inverse_of, placed_more, rows_of_order}
use Rattle.stores_shaped.proofs.orders.order_inverse.Goals as goal

pub overflow_cast-place : goal.overflow_cast-place
overflow_cast-place c =
    let order = c.args.order.now in
    let has = rows_of_order order c.requires in
    let few : length order ≤ 2 ^ 32 = few_rows order has (subst (λ (xs : List ℕ). (k : ℕ) → get_or xs k 0 < 2 ^ 32) c.as_slice-rows.ensures (λ k. omega (arith, c.type_inv.rows k))) in
    omega (arith, few, ap length c.as_slice-rows.ensures)

pub index_mut-requires : goal.index_mut-requires
index_mut-requires c =
    let order = c.args.order.now in
    let has = rows_of_order order c.requires in
    let row = ap (λ xs. get_or xs c.placing.place 0) c.as_slice-rows.ensures in
    let below = has.below c.placing.place (omega (arith, ap length c.as_slice-rows.ensures)) in
    omega (arith, row, below, ap length c.as_slice-rows.ensures)

pub placing-preserved : goal.placing-preserved
placing-preserved c =
    let order = c.args.order.now in
    let has = rows_of_order order c.requires in
    let inverse = c.placing.inverse.items in
    let place = c.placing.place in record {
      long = length-set inverse (get_or c.as_slice-rows.result.now place 0) place ∙ c.placing.invariant.long;
      placed = subst (λ (xs : List ℕ). (q : ℕ) → q < place + 1 → get_or (set inverse (get_or xs place 0) place) (get_or order q 0) 0 ≡ q) (sym c.as_slice-rows.ensures)
          (placed_more order inverse place has (omega (arith, ap length c.as_slice-rows.ensures)) c.placing.invariant.long c.placing.invariant.placed);
    }

pub returns : goal.returns
returns c =
    let order = c.args.order.now in
    let inverse = c.placing.inverse.items in
    let has = rows_of_order order c.requires in
    subst (IsInverse order) (sym c.from_vec.ensures)
    (inverse_of order inverse has c.placing.invariant.long (λ q low. c.placing.invariant.placed q (omega (arith, ap length c.as_slice-rows.ensures))))
