use Rattle.std.proofs.Common.{◌≡◌, ◌<◌, ◌^◌, length, get_or, arith}
use Rattle.stores_packed.proofs.TreeLemmas.{read_at}
use Rattle.stores_shaped.proofs.CrossingLemmas.{few_offsets}
use Rattle.stores_shaped.proofs.diagonal.DiagonalStoreRisingLines.column.Goals as goal

pub overflow_add-diagonal : goal.overflow_add-diagonal
overflow_add-diagonal c =
    let s = c.args.self.now in
    let d = s.diagonal in
    let w = d.windows c.args.row c.requires.row in
    let first : c.index.result.now ≡ get_or s.firsts.items c.args.row 0 = read_at s.firsts.items c.args.row (length s.globals) c.index.result.now c.requires.row (omega (arith, d.firsts_long)) c.index.ensures in
    let few : length s.offsets < 2 ^ 32 = few_offsets s.offsets d.rise d.small in
    omega (arith, first, few, w.within)
