use Rattle.std.proofs.Common.{Some, sym, ap, ◌∙◌, arith}
use Rattle.std.specs.List.{slice_get}
use Rattle.stores_shaped.specs.Jagged.{jagged_children, jagged_index}
use Rattle.stores_shaped.proofs.JaggedLemmas.{entry_of_place, line_of_place, root_count, root_entry}
use Rattle.stores_shaped.proofs.jagged.JaggedStoreAccess.entry.Goals as goal

pub column-requires-clause-within : goal.column-requires-clause-within
column-requires-clause-within c =
    let s = c.args.self.now in
    let line = line_of_place s.order s.counts.items s.starts.items s.indices.items s.values.items c.args.level c.args.parent c.if-level-gt0.true c.requires.parent in
    omega (arith, line.count, c.requires.from, c.requires.within)

pub leaf-requires-clause-within : goal.leaf-requires-clause-within
leaf-requires-clause-within c =
    let s = c.args.self.now in
    let line = line_of_place s.order s.counts.items s.starts.items s.indices.items s.values.items c.args.level c.args.parent c.if-level-gt0.true c.requires.parent in
    omega (arith, line.count, c.requires.from, c.requires.within)

pub at-requires : goal.at-requires
at-requires c =
    let s = c.args.self.now in
    omega (arith, root_count s.order s.counts.items s.starts.items s.indices.items c.args.level c.args.parent c.if-level-gt0.false, c.requires.from, c.requires.within)

pub returns-then-level-gt0 : goal.returns-then-level-gt0
returns-then-level-gt0 c =
    let s = c.args.self.now in
    let line = line_of_place s.order s.counts.items s.starts.items s.indices.items s.values.items c.args.level c.args.parent c.if-level-gt0.true c.requires.parent in
    ap (slice_get (jagged_children s.order s.counts.items s.starts.items s.indices.items c.args.level c.args.parent)) (omega (arith, c.requires.from))
    ∙ entry_of_place s.order s.counts.items s.starts.items s.indices.items s.values.items c.args.level c.args.parent c.args.place line (omega (arith, line.count, c.requires.from, c.requires.within))
    ∙ ap (λ l. Some (jagged_index s.starts.items s.indices.items c.args.parent c.args.place, l)) (sym c.leaf.ensures.leaf)
    ∙ ap (λ i. Some (i, c.leaf.result)) (sym c.column.ensures)

pub returns-else-level-gt0 : goal.returns-else-level-gt0
returns-else-level-gt0 c =
    let s = c.args.self.now in
    ap (slice_get (jagged_children s.order s.counts.items s.starts.items s.indices.items c.args.level c.args.parent)) (omega (arith, c.requires.from))
    ∙ root_entry s.order s.counts.items s.starts.items s.indices.items c.args.level c.args.parent c.args.place c.at.result.now c.if-level-gt0.false
    (omega (arith, root_count s.order s.counts.items s.starts.items s.indices.items c.args.level c.args.parent c.if-level-gt0.false, c.requires.from, c.requires.within)) c.at.ensures
