use Rattle.mm_text.proofs.FrontsLemmas.{pair_begins}
use Rattle.mm_text.proofs.plain_lines.pair.Goals as goal

pub returns : goal.returns
returns c =
    pair_begins c.args.piece.now c.in_ok-row.after_row.now c.in_ok-col_on.col_on.now c.in_ok-col.after_col.now c.in_ok-rest.rest.now c.in_ok-row.row c.in_ok-col.col
    c.in_ok-row.ensures c.in_ok-col_on.ensures c.in_ok-col.ensures c.in_ok-rest.ensures
