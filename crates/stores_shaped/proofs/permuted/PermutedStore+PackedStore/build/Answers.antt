use Rattle.std.proofs.Common.{length, subst, arith}
use Rattle.stores_packed.specs.Packed.{packed_tree}
use Rattle.stores_packed.specs.PackedLaws.{packed_is_tree}
use Rattle.stores_shaped.specs.Permuted.{HasDenseRows}
use Rattle.stores_shaped.proofs.OrderLemmas.{order_below, order_of_part}
use Rattle.stores_shaped.proofs.PermutedLemmas.{dense_rows}
use Rattle.stores_shaped.proofs.permuted.PermutedStore+PackedStore.build.Goals as goal

pub local_order-requires-clause-few : goal.local_order-requires-clause-few
local_order-requires-clause-few c = omega (arith, c.requires.orders.long)

pub local_order-requires-clause-order : goal.local_order-requires-clause-order
local_order-requires-clause-order c = order_below c.args.order.now c.requires.orders.each_once

pub order_inverse-requires : goal.order_inverse-requires
order_inverse-requires c = (order_of_part c.args.globals.now c.args.order.now c.args.part.now (length c.args.order.now) c.in_ok-local.local c.requires.orders c.in_ok-local.ensures).1

pub rows_in_order-requires-clause-order : goal.rows_in_order-requires-clause-order
rows_in_order-requires-clause-order c = (order_of_part c.args.globals.now c.args.order.now c.args.part.now (length c.args.order.now) c.in_ok-local.local c.requires.orders c.in_ok-local.ensures).1

pub rows_in_order-requires-clause-long : goal.rows_in_order-requires-clause-long
rows_in_order-requires-clause-long c = (order_of_part c.args.globals.now c.args.order.now c.args.part.now (length c.args.order.now) c.in_ok-local.local c.requires.orders c.in_ok-local.ensures).0

pub wrap-requires-clause-dense : goal.wrap-requires-clause-dense
wrap-requires-clause-dense c =
    let s = c.in_ok-inner.inner in
    let globals = c.args.globals.now in
    let order = c.args.order.now in
    subst (HasDenseRows (packed_tree s.form s.outers.items s.starts.items s.indices.items s.values.items)) c.in_ok-arranged.ensures.rows.rows
    (dense_rows (packed_tree s.form s.outers.items s.starts.items s.indices.items s.values.items) globals order c.in_ok-arranged.arranged
    (packed_is_tree s.form s.outers.items s.starts.items s.indices.items s.values.items s.packed) (c.in_ok-inner.ensures globals order))

pub returns : goal.returns
returns c file =
    c.wrap.ensures.describes file c.args.globals.now c.args.order.now c.args.part.now c.in_ok-arranged.arranged (record {
      described = c.in_ok-inner.ensures c.args.globals.now c.args.order.now;
      rows = c.in_ok-arranged.ensures.rows;
      order_is = c.in_ok-local.ensures;
    })
