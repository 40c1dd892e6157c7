use Rattle.std.proofs.Common.{◌+◌, take, sym, subst}
use Rattle.std.specs.List.{AllZip}
use Rattle.job_files.specs.RowOrders.{IsRowOrder}
use Rattle.job_files.proofs.OrderLemmas.{zip_more}
use Rattle.job_files.proofs.orders.row_orders.Goals as goal

pub loop-array-preserved : goal.loop-array-preserved
loop-array-preserved c =
    let items = c.as_slice-array-items.result.now in
    subst (AllZip (IsRowOrder c.args.job.now.formats) (take (c.loop-array.array-index + 1) items)) (sym c.in_ok-push.ensures.ok)
    (zip_more (IsRowOrder c.args.job.now.formats) items c.loop-array.orders c.loop-array.array-index c.array-item.result c.in_ok-row_order.field-0 c.loop-array-test.true c.array-item.is c.loop-array.invariant c.in_ok-row_order.ensures)
