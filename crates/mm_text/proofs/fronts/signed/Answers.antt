use Rattle.mm_text.proofs.FrontsLemmas.{signed_integer}
use Rattle.mm_text.proofs.fronts.signed.Goals as goal

pub returns : goal.returns
returns c =
    signed_integer c.args.bytes.now c.in_ok-size.rest.now c.in_ok-size.size c.number_of.result (rw c.unsigned.ensures at c.in_ok-size.ensures) (rw c.is_minus.ensures at c.number_of.ensures)
