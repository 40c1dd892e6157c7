use Rattle.std.proofs.Common.{◌≡◌, pos, ◌-ℤ◌, w64, of_z, to_z, arith}
use Rattle.std.proofs.lemmas.Int.{ints}
use Rattle.bern_base.proofs.AffineLemmas.{times_rises, times_falls}
use Rattle.bern_base.proofs.affine.greatest_end.Goals as goal

pub returns-then-factor-lt0-clause-greatest : goal.returns-then-factor-lt0-clause-greatest
returns-then-factor-lt0-clause-greatest c = λ x inside.
    let first : to_z w64 (of_z w64 c.args.span.0) ≡ c.args.span.0 = omega (arith, ints, c.requires) in
    rw first (times_falls c.args.factor c.args.span.0 x (omega (arith, ints, c.if-factor-lt0.true, c.ranges.factor)) (omega (arith, ints, inside)))

pub returns-else-factor-lt0-clause-greatest : goal.returns-else-factor-lt0-clause-greatest
returns-else-factor-lt0-clause-greatest c = λ x inside.
    let last : to_z w64 (of_z w64 (to_z w64 (of_z w64 c.args.span.1) -ℤ pos 1)) ≡ c.args.span.1 -ℤ pos 1 = omega (arith, ints, c.requires) in
    rw last (times_rises c.args.factor x (c.args.span.1 -ℤ pos 1) (omega (arith, ints, c.if-factor-lt0.false, c.ranges.factor)) (omega (arith, ints, inside)))
