use Rattle.mm_text.proofs.FrontsLemmas.{value_begins}
use Rattle.mm_text.proofs.plain_lines.value.Goals as goal

pub returns : goal.returns
returns c = value_begins c.args.piece.now c.in-Some.after_value.now c.in_ok-rest.rest.now c.in-Some.value c.in-Some.ensures c.in_ok-rest.ensures
