use Rattle.std.proofs.Common.{sym}
use Rattle.mm_text.proofs.FrontsLemmas.{unsigned_integer}
use Rattle.mm_text.proofs.fronts.integer.Goals as goal

pub returns : goal.returns
returns c =
    unsigned_integer c.args.bytes.now c.in_ok-size.rest.now c.in_ok-size.size c.number_of.result (sym c.if-is_minus.ensures) (sym c.if-is_plus.ensures) c.in_ok-size.ensures c.number_of.ensures
