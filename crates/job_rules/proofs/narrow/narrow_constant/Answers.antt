use Rattle.std.proofs.Common.{arith, subst, sym, ◌≤◌}
use Rattle.std.specs.Prelude.{unsigned_abs}
use Rattle.std.proofs.lemmas.Int.{ints}
use Rattle.bern_base.specs.declared.limits.TheConstants.{MOST_CONSTANT}
use Rattle.job_rules.proofs.SumLemmas.{within_constant}
use Rattle.job_rules.proofs.narrow.narrow_constant.Goals as goal

pub small_cast-requires : goal.small_cast-requires
small_cast-requires c =
    let small = subst (λ k. unsigned_abs k ≤ MOST_CONSTANT) (sym c.constant.ensures.value) (within_constant c.args.sum.now c.requires) in
    omega (arith, ints)
