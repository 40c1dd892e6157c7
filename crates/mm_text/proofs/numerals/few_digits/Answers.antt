use Rattle.std.proofs.Common.{ℕ, ◌<◌, slice_index, sym, arith}
use Rattle.mm_text.proofs.NumeralLemmas.{tens-fit, digit-fits}
use Rattle.mm_text.proofs.numerals.few_digits.Goals as goal

pub overflow_mul-number : goal.overflow_mul-number
overflow_mul-number c =
    let few : c.loop-at.at < 19 = omega (arith, c.loop-at-test.true, c.requires) in
    omega (arith, tens-fit c.loop-at.number c.loop-at.at c.loop-at.invariant.below few)

pub overflow_add-number : goal.overflow_add-number
overflow_add-number c =
    let few : c.loop-at.at < 19 = omega (arith, c.loop-at-test.true, c.requires) in
    let b : ℕ = slice_index c.args.front.now c.loop-at.at in
    omega (arith, digit-fits c.loop-at.number c.loop-at.at b c.loop-at.invariant.below few (sym c.if-not-is_digit.ensures))
