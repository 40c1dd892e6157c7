-- The arrays so far have their orders.
use Rattle.std.proofs.Common.{take}
use Rattle.std.specs.List.{AllZip}
use Rattle.job_files.specs.RowOrders.{IsRowOrder}
use Rattle.job_files.proofs.orders.row_orders.Given as goal

abbrev pub invariant-loop-array : goal.invariant-loop-array
invariant-loop-array l = AllZip (IsRowOrder l.job.formats) (take l.array-index l.array-items) l.orders
