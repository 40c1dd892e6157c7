use Rattle.std.proofs.Common.{arith, subst, sym, ◌≤◌}
use Rattle.std.specs.Prelude.{unsigned_abs}
use Rattle.std.proofs.lemmas.Int.{ints}
use Rattle.bern_base.specs.declared.limits.TheConstants.{MOST_COEFFICIENT}
use Rattle.job_rules.proofs.SumLemmas.{within_coefficient}
use Rattle.job_rules.proofs.narrow.narrow_coefficient.Goals as goal

pub small_cast-requires : goal.small_cast-requires
small_cast-requires c =
    let small = subst (λ k. unsigned_abs k ≤ MOST_COEFFICIENT) (sym c.coefficient.ensures.value) (within_coefficient c.args.sum.now c.args.variable c.requires) in
    omega (arith, ints)
