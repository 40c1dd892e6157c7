use Rattle.std.proofs.Common.{◌^◌, ◌*ℤ◌, arith, lit<}
use mir.Syntax.{w128}
use Rattle.std.proofs.lemmas.Int.{fits_signed_mul, to_z-of_z}
use Rattle.job_rules.proofs.IntLemmas.{abs_product}
use Rattle.job_rules.proofs.ranges.product.Goals as goal

pub overflow_mul-result : goal.overflow_mul-result
overflow_mul-result c =
    rw (to_z-of_z w128 c.args.coefficient c.ranges.coefficient, to_z-of_z w128 c.args.value c.ranges.value)
    (fits_signed_mul w128 c.args.coefficient c.args.value (2 ^ 35) (2 ^ 67) (omega arith) (omega arith) (lit< tt))

pub returns-clause-value : goal.returns-clause-value
returns-clause-value c =
    let fits = fits_signed_mul w128 c.args.coefficient c.args.value (2 ^ 35) (2 ^ 67) (omega arith) (omega arith) (lit< tt) in
    rw (to_z-of_z w128 c.args.coefficient c.ranges.coefficient, to_z-of_z w128 c.args.value c.ranges.value) (to_z-of_z w128 (c.args.coefficient *ℤ c.args.value) fits)

pub returns-clause-small : goal.returns-clause-small
returns-clause-small c =
    let fits = fits_signed_mul w128 c.args.coefficient c.args.value (2 ^ 35) (2 ^ 67) (omega arith) (omega arith) (lit< tt) in
    let size = abs_product c.args.coefficient c.args.value (2 ^ 35) (2 ^ 67) (omega arith) (omega arith) in
    rw (to_z-of_z w128 c.args.coefficient c.ranges.coefficient, to_z-of_z w128 c.args.value c.ranges.value, to_z-of_z w128 (c.args.coefficient *ℤ c.args.value) fits) (omega arith)
