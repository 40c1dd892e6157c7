use Rattle.mm_text.proofs.TableLemmas.{takes_first}
use Rattle.mm_text.proofs.table.Table.take_plain.Goals as goal

pub returns-in-Ok-clause-some : goal.returns-in-Ok-clause-some
returns-in-Ok-clause-some c = λ n more.
    rw c.in-Ok.ensures.ok (takes_first c.args.self.now c.in-Some.due c.in-Some.counted c.args.piece.now c.in-Some.rest.now n more c.in-Some.ensures.entry)
