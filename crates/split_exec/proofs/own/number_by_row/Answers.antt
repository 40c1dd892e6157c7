use Rattle.std.proofs.Common.{◌*◌, ◌≡◌, ap, arith}
use Rattle.placement.specs.Placement.{local_of}
use Rattle.split_exec.proofs.LocalLemmas.{by_row_low}
use Rattle.split_exec.proofs.own.number_by_row.Goals as goal

pub overflow_mul-result : goal.overflow_mul-result
overflow_mul-result g c =
    let ts = g.P.Placement.triples c.args.place.now in
    let low = by_row_low ts c.args.array.now c.args.row c.args.col (g.met.P.Placement.placed c.args.place.now) c.requires.extent c.requires.row c.requires.col in
    let same : c.seat-seat.result.local * c.args.array.now.cols ≡ local_of ts c.args.row * c.args.array.now.cols = ap (λ n. n * c.args.array.now.cols) c.seat-seat.ensures.local in
    omega (arith, low, same, c.requires.few)

pub overflow_add-result : goal.overflow_add-result
overflow_add-result g c =
    let ts = g.P.Placement.triples c.args.place.now in
    let low = by_row_low ts c.args.array.now c.args.row c.args.col (g.met.P.Placement.placed c.args.place.now) c.requires.extent c.requires.row c.requires.col in
    let same : c.seat-seat.result.local * c.args.array.now.cols ≡ local_of ts c.args.row * c.args.array.now.cols = ap (λ n. n * c.args.array.now.cols) c.seat-seat.ensures.local in
    omega (arith, low, same, c.requires.few)
