use Rattle.std.proofs.Common.{◌≡◌, get_or, length, arith}
use Rattle.stores_packed.proofs.TreeLemmas.{read_at}
use Rattle.stores_shaped.proofs.JaggedLemmas.{line_of_place, root_count}
use Rattle.stores_shaped.proofs.jagged.JaggedStoreAccess.line.Goals as goal

pub returns-then-level-gt0-clause-to : goal.returns-then-level-gt0-clause-to
returns-then-level-gt0-clause-to c =
    let s = c.args.self.now in
    let line = line_of_place s.order s.counts.items s.starts.items s.indices.items s.values.items c.args.level c.args.parent c.if-level-gt0.true c.requires in
    let to : c.index.result.now ≡ get_or s.counts.items c.args.parent 0 = read_at s.counts.items c.args.parent (length s.order) c.index.result.now line.there (omega (arith, s.jagged.counts_long)) c.index.ensures in
    omega (arith, to, line.count)

pub returns-else-level-gt0-clause-to : goal.returns-else-level-gt0-clause-to
returns-else-level-gt0-clause-to c =
    let s = c.args.self.now in
    omega (arith, root_count s.order s.counts.items s.starts.items s.indices.items c.args.level c.args.parent c.if-level-gt0.false, s.jagged.few, c.len.ensures)
