use Rattle.std.proofs.Common.{◌≤◌, sym, arith}
use Rattle.mm_profile.specs.Places.{first_row}
use Rattle.mm_text.proofs.PlacesLemmas.{columns_none, columns_step}
use Rattle.mm_text.proofs.due.due_from.Goals as goal

pub returns-then-row-head-clause-places : goal.returns-then-row-head-clause-places
returns-then-row-head-clause-places c =
    let above : c.args.head.now.rows ≤ first_row c.args.head.now.kind.symmetry c.args.col = omega (arith, c.first_row-row.ensures) in
    sym (columns_none c.args.head.now c.args.col _ above)

pub returns-clause-places : goal.returns-clause-places
returns-clause-places c = rw c.first_row-row.ensures (sym (columns_step c.args.head.now c.args.col (omega arith)))
