use Rattle.std.proofs.Common.{◌≡◌, ◌*◌, ◌<◌, ◌==◌, ◌++◌, ℕ, true, List, flat_map, length, set, slice_get, get_or, refl, sym, ap, ◌∙◌, arith}
use Rattle.std.proofs.lemmas.Bool.{eqb-true}
use Rattle.std.proofs.lemmas.List.{get_or_default}
use Rattle.bern_base.specs.Matrix.{IsMatrix, values_of}
use Rattle.rank_product.specs.Runs.{first_state}
use Rattle.job_runs.specs.Printing.{replayed_values}
use Rattle.job_runs.specs.Texts.{text_of}
use Rattle.rank_product.proofs.ListLemmas.{all_at}
use Rattle.job_runs.proofs.PrintLemmas.{matrix_size, matrix_there, print_at, print_below, print_more, replayed_are, target_size}
use Rattle.job_runs.proofs.printing.print_replayed.Goals as goal

pub at-requires : goal.at-requires
at-requires c =
    let items = c.as_slice-number-items.result.now in
    let i = c.loop-number.number-index in
    print_below c.args.job.now (get_or items i 0)
    (print_at c.args.job.now items i (get_or items i 0) c.as_slice-number-items.ensures c.requires.prints c.loop-number-test.true (get_or_default items i 0 (get_or items i 0) c.loop-number-test.true))

pub at-requires-in-loop-number : goal.at-requires-in-loop-number
at-requires-in-loop-number c =
    let items = c.as_slice-number-items.result.now in
    let i = c.loop-number.number-index in
    matrix_there c.args.job.now c.args.matrices.now (get_or items i 0) c.requires.matrices
    (print_at c.args.job.now items i (get_or items i 0) c.as_slice-number-items.ensures c.requires.prints c.loop-number-test.true (get_or_default items i 0 (get_or items i 0) c.loop-number-test.true))

pub write_replayed-requires-clause-matrix : goal.write_replayed-requires-clause-matrix
write_replayed-requires-clause-matrix c =
    all_at IsMatrix c.args.matrices.now (get_or c.as_slice-number-items.result.now c.loop-number.number-index 0) c.at-in-loop-number.result.now c.requires.matrices.matrices_are c.at-in-loop-number.ensures

pub write_replayed-requires-clause-long : goal.write_replayed-requires-clause-long
write_replayed-requires-clause-long c = λ is.
    let number = get_or c.as_slice-number-items.result.now c.loop-number.number-index 0 in
    let same : number ≡ c.args.product.target = eqb-true number c.args.product.target is in
    target_size c.args.job.now c.args.product c.at.result.now c.args.values.now c.requires.product (ap (λ n. slice_get c.args.job.now.arrays n) (sym same) ∙ c.at.ensures) c.requires.long

pub write_replayed-requires-clause-own : goal.write_replayed-requires-clause-own
write_replayed-requires-clause-own c =
    matrix_size c.args.job.now c.args.matrices.now (get_or c.as_slice-number-items.result.now c.loop-number.number-index 0) c.at.result.now c.at-in-loop-number.result.now c.requires.matrices c.at.ensures c.at-in-loop-number.ensures

pub loop-number-preserved : goal.loop-number-preserved
loop-number-preserved c =
    let job = c.args.job.now in
    let p = c.args.product in
    let ms = c.args.matrices.now in
    let values = c.args.values.now in
    let items = c.as_slice-number-items.result.now in
    let i = c.loop-number.number-index in
    let number = get_or items i 0 in
    let here = get_or_default items i 0 number c.loop-number-test.true in
    let is = print_at job items i number c.as_slice-number-items.ensures c.requires.prints c.loop-number-test.true here in
    print_more job (set (first_state ms) p.target values) items i number c.at.result.now (replayed_values (number == p.target) values c.at-in-loop-number.result.now)
    c.loop-number.text c.write_replayed.new.text c.loop-number-test.true here c.at.ensures
    (replayed_are job p ms number c.at-in-loop-number.result.now values (number == p.target) c.requires.matrices is c.at-in-loop-number.ensures refl)
    c.loop-number.invariant c.in_ok-write_replayed.ensures
