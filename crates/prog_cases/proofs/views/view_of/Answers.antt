use Rattle.std.proofs.Common.{◌≡◌, false, true, arith}
use Rattle.job_files.specs.FileOrder.{IsArrayIn}
use Rattle.job_files.specs.RowOrders.{IsRowOrder}
use Rattle.whole_runs.proofs.StoreLemmas.{zip_long}
use Rattle.prog_cases.proofs.PartLemmas.{admitted}
use Rattle.prog_cases.proofs.views.view_of.Goals as goal

pub at-matrix-requires : goal.at-matrix-requires
at-matrix-requires c =
    let l = c.args.loaded.now in
    omega (arith, c.requires.number, zip_long (IsArrayIn l.job.formats) l.job.arrays l.files.matrices c.requires.loaded.can.arrays)

pub at-order-requires : goal.at-order-requires
at-order-requires c =
    let l = c.args.loaded.now in
    omega (arith, c.requires.number, zip_long (IsRowOrder l.job.formats) l.job.arrays l.files.orders c.requires.loaded.can.rows)

pub part_view-requires-clause-admitted : goal.part_view-requires-clause-admitted
part_view-requires-clause-admitted c =
    let l = c.args.loaded.now in
    let few = c.len.ensures in
    let weight = c.in-Some.ensures.some in
    admitted l.job l.files.matrices l.files.orders c.args.number c.at-array.result.now c.at-format.result.now c.at-matrix.result.now c.at-order.result.now c.args.ranks c.requires.loaded.can
    c.at-array.ensures c.at-format.ensures c.at-matrix.ensures c.at-order.ensures (λ same. absurd (let odd : false ≡ true = rw same at c.if-eq.ensures in cc)) (omega (arith, weight.0, c.if-weight-gt1000.false)) (omega (arith, few, c.if-len-gt1000.false))
