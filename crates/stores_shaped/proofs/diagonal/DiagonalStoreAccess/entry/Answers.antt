use Rattle.std.proofs.Common.{Some, sym, ap, ◌∙◌, arith}
use Rattle.stores_shaped.proofs.DiagonalLemmas.{entry_of_row, line_of_row, root_entry}
use Rattle.stores_shaped.proofs.diagonal.DiagonalStoreAccess.entry.Goals as goal

pub column-requires-clause-within : goal.column-requires-clause-within
column-requires-clause-within c =
    let s = c.args.self.now in
    let line = line_of_row s.cols s.offsets s.globals s.firsts.items s.starts.items s.values.items c.args.level c.args.parent s.diagonal c.if-level-gt0.true c.requires.parent in
    omega (arith, line.count, line.begin, line.order)

pub returns-then-level-gt0 : goal.returns-then-level-gt0
returns-then-level-gt0 c =
    let s = c.args.self.now in
    entry_of_row s.cols s.offsets s.globals s.firsts.items s.starts.items s.values.items c.args.level c.args.parent c.args.from c.args.place s.diagonal c.if-level-gt0.true c.requires.parent c.requires.from c.requires.order c.requires.within
    ∙ ap (λ i. Some (i, c.args.place)) (sym c.column.ensures)

pub returns-else-level-gt0 : goal.returns-else-level-gt0
returns-else-level-gt0 c =
    let s = c.args.self.now in
    root_entry s.offsets s.globals s.firsts.items s.starts.items c.args.level c.args.parent c.args.from c.args.place c.if-level-gt0.false c.requires.from c.requires.order c.requires.within
