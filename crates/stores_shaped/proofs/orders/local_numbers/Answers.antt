use Rattle.std.proofs.Common.{◌≡◌, ◌==◌, drop, sym, ap, ◌∙◌, arith}
use Rattle.std.proofs.lemmas.Iterator.Adapters.{position_from-zero}
use Rattle.stores_shaped.proofs.OrderLemmas.{place_from}
use Rattle.stores_shaped.proofs.orders.local_numbers.Goals as goal

pub returns-clause-numbers : goal.returns-clause-numbers
returns-clause-numbers c row low =
    let none : c.numbering.left ≡ 0 = omega arith in
    c.numbering.invariant.numbers row low ∙ ap (λ n. place_from row n (drop n c.args.globals.now)) none ∙ sym (position_from-zero (λ g. g == row) c.args.globals.now)
