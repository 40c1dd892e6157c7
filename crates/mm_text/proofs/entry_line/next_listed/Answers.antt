use Rattle.std.proofs.Common.{◌+◌, ◌-◌, ◌++◌, sym}
use Rattle.mm_profile.specs.Lines.{words}
use Rattle.mm_profile.specs.Places.{At, column_from, columns}
use Rattle.mm_text.specs.Cursor.{due_list}
use Rattle.mm_text.proofs.PlacesLemmas.{column_step}
use Rattle.mm_text.proofs.EntriesLemmas.{entries_ok, entries_err}
use Rattle.mm_text.proofs.entry_line.next_listed.Goals as goal

pub returns-in-Ok-clause-entry : goal.returns-in-Ok-clause-entry
returns-in-Ok-clause-entry c = λ n lines past.
    rw (column_step c.args.head.now.rows c.args.row c.args.col c.requires.row)
    (rw (← c.due_after.ensures.places)
    (entries_ok c.args.head.now (At c.args.row c.args.col) (due_list c.args.head.now c.due_after.result) (words c.args.line.now) n lines past _ (sym c.in-Ok.ensures.entry)))

pub returns-in-Err-clause-entry : goal.returns-in-Err-clause-entry
returns-in-Err-clause-entry c = λ n lines past.
    rw (column_step c.args.head.now.rows c.args.row c.args.col c.requires.row)
    (entries_err c.args.head.now (At c.args.row c.args.col)
    (column_from c.args.head.now.rows (c.args.row + 1) c.args.col ++ columns c.args.head.now (c.args.col + 1) (c.args.head.now.cols - (c.args.col + 1)))
    (words c.args.line.now) n lines past _ (sym c.in-Err.ensures.entry))
