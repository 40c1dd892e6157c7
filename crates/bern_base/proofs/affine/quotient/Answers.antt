use Rattle.std.proofs.Common.{◌≡◌, pos, w64, of_z, ap, sym, ◌∙◌}
use Rattle.std.specs.Prelude.{int_div, int_rem}
use Rattle.std.proofs.lemmas.Int.{to_z-of_z, quot-rem, rem_below}
use Rattle.bern_base.proofs.AffineLemmas.{no_rest, some_abs}
use Rattle.bern_base.proofs.affine.quotient.Goals as goal

pub returns-then-product-factor-ne0-clause-none : goal.returns-then-product-factor-ne0-clause-none
returns-then-product-factor-ne0-clause-none c = λ none x is.
    let product = c.args.product in
    let factor = c.args.factor in
    let rest : int_rem product factor ≡ pos 0 =
    no_rest factor (int_div product factor) (int_rem product factor) x (quot-rem product factor ∙ sym is) (rem_below product factor (some_abs factor c.requires.factor)) in
    c.if-product-factor-ne0.true (rw (to_z-of_z w64 product c.ranges.product, to_z-of_z w64 factor c.ranges.factor) (ap (of_z w64) rest))
