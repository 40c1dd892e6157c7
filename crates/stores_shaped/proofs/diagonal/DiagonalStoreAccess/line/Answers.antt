use Rattle.std.proofs.Common.{◌≡◌, ◌+◌, ◌<◌, length, get_or, arith}
use Rattle.stores_packed.proofs.TreeLemmas.{read_at}
use Rattle.stores_shaped.proofs.DiagonalLemmas.{line_of_row, root_count}
use Rattle.stores_shaped.proofs.diagonal.DiagonalStoreAccess.line.Goals as goal

pub returns-then-level-gt0-clause-to : goal.returns-then-level-gt0-clause-to
returns-then-level-gt0-clause-to c =
    let s = c.args.self.now in
    let starts = s.starts.items in
    let parent = c.args.parent in
    let line = line_of_row s.cols s.offsets s.globals s.firsts.items s.starts.items s.values.items c.args.level parent s.diagonal c.if-level-gt0.true c.requires in
    let next : parent + 1 < length starts = omega (arith, line.there, s.diagonal.starts_long) in
    let from : c.index.result.now ≡ get_or starts parent 0 = read_at starts parent (length starts) c.index.result.now (omega arith) (omega arith) c.index.ensures in
    let to : c.index-then-level-gt0.result.now ≡ get_or starts (parent + 1) 0 = read_at starts (parent + 1) (length starts) c.index-then-level-gt0.result.now next (omega arith) c.index-then-level-gt0.ensures in
    omega (arith, line.order, line.count, from, to)

pub returns-else-level-gt0-clause-to : goal.returns-else-level-gt0-clause-to
returns-else-level-gt0-clause-to c =
    let s = c.args.self.now in
    omega (arith, root_count s.offsets s.globals s.firsts.items s.starts.items c.args.level c.args.parent c.if-level-gt0.false, s.diagonal.few, c.len.ensures)
