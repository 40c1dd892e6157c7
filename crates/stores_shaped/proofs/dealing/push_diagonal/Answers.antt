use Rattle.std.proofs.Common.{◌≡◌, get_or, length, arith}
use Rattle.stores_packed.proofs.TreeLemmas.{read_at}
use Rattle.stores_shaped.specs.Counts.{row_at}
use Rattle.stores_shaped.proofs.dealing.push_diagonal.Goals as goal

pub overflow_add-entry : goal.overflow_add-entry
overflow_add-entry c =
    let starts = c.args.filled.now.starts.items in
    let r = row_at c.args.rows.now c.rows.width in
    let lies = c.requires.lie c.rows.width (record { row = 0; count = 0 }) c.rows-test.true in
    let from : c.index.result.now ≡ get_or starts r.row 0 = read_at starts r.row (length starts) c.index.result.now lies.0 (omega arith) c.index.ensures in
    omega (arith, from, lies.1, c.requires.small)
