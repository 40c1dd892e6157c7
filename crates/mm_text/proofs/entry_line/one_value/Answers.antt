use Rattle.mm_text.proofs.LinesLemmas.{integer-word}
use Rattle.mm_text.proofs.entry_line.one_value.Goals as goal

pub returns-in-Some : goal.returns-in-Some
returns-in-Some c = rw (integer-word c.args.line.now c.in-Some.ensures.0) (c.in-Some.ensures.0, c.in-Some.ensures.1)
