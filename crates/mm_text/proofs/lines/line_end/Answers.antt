use Rattle.mm_text.proofs.PieceLemmas.{position-from_first}
use Rattle.mm_text.proofs.lines.line_end.Goals as goal

pub returns : goal.returns
returns c = position-from_first 10 c.args.piece.now c.memchr.result c.memchr.ensures
