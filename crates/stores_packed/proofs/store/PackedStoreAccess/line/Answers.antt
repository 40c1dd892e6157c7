use Rattle.std.proofs.Common.{◌≡◌, ◌+◌, length, get_or, arith}
use Rattle.stores_packed.proofs.TreeLemmas.{node_line, node_starts, read_at, root_line}
use Rattle.stores_packed.proofs.store.PackedStoreAccess.line.Goals as goal

pub returns-then-level-gt0-clause-to : goal.returns-then-level-gt0-clause-to
returns-then-level-gt0-clause-to c =
    let s = c.args.self.now in
    let line = node_line s.form s.outers.items s.starts.items s.indices.items s.values.items c.args.level c.args.parent s.packed c.if-level-gt0.true c.requires in
    let next = node_starts s.form s.outers.items s.starts.items s.indices.items s.values.items c.args.level c.args.parent s.packed c.if-level-gt0.true c.requires in
    let from : c.index.result.now ≡ get_or s.starts.items c.args.parent 0 = read_at s.starts.items c.args.parent (c.args.parent + 1) c.index.result.now (omega arith) (omega arith) c.index.ensures in
    let to : c.index-then-level-gt0.result.now ≡ get_or s.starts.items (c.args.parent + 1) 0 = read_at s.starts.items (c.args.parent + 1) (length s.starts.items) c.index-then-level-gt0.result.now next (omega arith) c.index-then-level-gt0.ensures in
    omega (arith, line.order, line.count, from, to)

pub returns-else-level-gt0-clause-to : goal.returns-else-level-gt0-clause-to
returns-else-level-gt0-clause-to c =
    let s = c.args.self.now in
    let line = root_line s.form s.outers.items s.starts.items s.indices.items s.values.items c.args.level c.args.parent s.packed c.if-level-gt0.false in
    omega (arith, line.count, c.width.ensures)
