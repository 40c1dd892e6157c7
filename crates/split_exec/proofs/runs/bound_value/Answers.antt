use Rattle.std.proofs.Common.{◌≡◌, ◌∙◌, ℤ, ◌≤ℤ◌, ◌<ℤ◌, Some, sym, ap, arith}
use Rattle.std.proofs.lemmas.Int.{ints}
use Rattle.bern_base.specs.Affine.{IsWithin}
use Rattle.bern_base.proofs.AffineLemmas.{word, word_kept}
use Rattle.walks.specs.Courses.{bind, step_to}
use Rattle.split_exec.proofs.RunLemmas.{binds, binds_above, binds_below}
use Rattle.split_exec.proofs.runs.bound_value.Goals as goal

pub returns-then-value-run-clause-none : goal.returns-then-value-run-clause-none
returns-then-value-run-clause-none c course r level v node is =
    binds_below course r level v node c.args.run.now c.args.index is c.in-Some.value (sym c.in-Some.ensures) (omega (arith, ints, c.if-value-run.true))

pub returns-then-value-run-2-clause-none : goal.returns-then-value-run-2-clause-none
returns-then-value-run-2-clause-none c course r level v node is =
    binds_above course r level v node c.args.run.now c.args.index is c.in-Some.value (sym c.in-Some.ensures) (omega (arith, ints, c.if-value-run-2.true))

near : (x low high : ℤ) → IsWithin 4194303 low → IsWithin 4194303 high → low ≤ℤ x → x <ℤ high → IsWithin 4194303 x
near x low high first last above below = (omega (arith, ints, first, above), omega (arith, ints, last, below))

pub returns-clause-some : goal.returns-clause-some
returns-clause-some c course r level v node is =
    let x = c.in-Some.value in
    let low : c.args.run.now.low ≤ℤ x = omega (arith, ints, c.if-value-run.false) in
    let high : x <ℤ c.args.run.now.high = omega (arith, ints, c.if-value-run-2.false) in
    let kept : word x ≡ x = word_kept 4194303 x (omega arith) (near x c.args.run.now.low c.args.run.now.high c.requires.low c.requires.high low high) in
    binds course r level v node c.args.run.now c.args.index is x (sym c.in-Some.ensures) low high
    ∙ ap (λ y. Some (bind (step_to c.args.run.now.hit r node) v y)) (sym kept)
