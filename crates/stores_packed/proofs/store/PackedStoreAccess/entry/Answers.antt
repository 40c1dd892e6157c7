use Rattle.std.proofs.Common.{Some, length, sym, ap, ◌∙◌, arith}
use Rattle.stores_packed.proofs.TreeLemmas.{node_entry, node_place, read_at, root_entry, root_place}
use Rattle.stores_packed.proofs.store.PackedStoreAccess.entry.Goals as goal

pub index-requires : goal.index-requires
index-requires c =
    let s = c.args.self.now in
    let place = node_place s.form s.outers.items s.starts.items s.indices.items s.values.items c.args.level c.args._parent c.args._from c.args.place s.packed c.if-level-gt0.true c.requires.parent c.requires.from c.requires.within in
    omega (arith, place)

pub outer_at-requires : goal.outer_at-requires
outer_at-requires c =
    let s = c.args.self.now in
    root_place s.form s.outers.items s.starts.items s.indices.items s.values.items c.args.level c.args._parent c.args._from c.args.place s.packed c.if-level-gt0.false c.requires.from c.requires.within

pub returns-then-level-gt0 : goal.returns-then-level-gt0
returns-then-level-gt0 c =
    let s = c.args.self.now in
    let place = node_place s.form s.outers.items s.starts.items s.indices.items s.values.items c.args.level c.args._parent c.args._from c.args.place s.packed c.if-level-gt0.true c.requires.parent c.requires.from c.requires.within in
    node_entry s.form s.outers.items s.starts.items s.indices.items s.values.items c.args.level c.args._parent c.args._from c.args.place s.packed c.if-level-gt0.true c.requires.parent c.requires.from c.requires.order c.requires.within
    ∙ ap (λ i. Some (i, c.args.place)) (sym (read_at s.indices.items c.args.place (length s.indices.items) c.index.result.now place (omega arith) c.index.ensures))

pub returns-else-level-gt0 : goal.returns-else-level-gt0
returns-else-level-gt0 c =
    let s = c.args.self.now in
    root_entry s.form s.outers.items s.starts.items s.indices.items s.values.items c.args.level c.args._parent c.args._from c.args.place s.packed c.if-level-gt0.false c.requires.from c.requires.order c.requires.within
    ∙ ap (λ i. Some (i, c.args.place)) (sym c.outer_at.ensures)
