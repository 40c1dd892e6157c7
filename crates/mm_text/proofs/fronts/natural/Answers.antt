use Rattle.std.proofs.Common.{sym}
use Rattle.std.proofs.lemmas.List.{take_rest}
use Rattle.mm_text.proofs.FrontsLemmas.{one_digit_more}
use Rattle.mm_text.proofs.fronts.natural.Goals as goal

pub returns : goal.returns
returns c =
    rw (take_rest c.in_ok-front.rest.now 1)
    (one_digit_more c.args.bytes.now c.in_ok-front.rest.now c.in_ok-front.front c.with_digit.result c.in_ok-front.ensures (sym c.if-not-is_digit.ensures) c.with_digit.ensures)
