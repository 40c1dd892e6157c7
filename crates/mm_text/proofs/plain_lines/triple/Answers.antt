use Rattle.mm_text.proofs.FrontsLemmas.{triple_begins}
use Rattle.mm_text.proofs.plain_lines.triple.Goals as goal

pub returns : goal.returns
returns c =
    triple_begins c.args.piece.now c.in_ok-row.after_row.now c.in_ok-col_on.col_on.now c.in_ok-col.after_col.now c.in_ok-value_on.value_on.now c.in-Some.after_value.now c.in_ok-rest.rest.now
    c.in_ok-row.row c.in_ok-col.col c.in-Some.value c.in_ok-row.ensures c.in_ok-col_on.ensures c.in_ok-col.ensures c.in_ok-value_on.ensures c.in-Some.ensures c.in_ok-rest.ensures
