use Rattle.std.proofs.Common.{◌≡◌, get_or, ap, ◌∙◌, arith, rules, ℤ, pos, FitsSigned, w64}
use Rattle.std.proofs.lemmas.List.Sums.{sum_by_more}
use Rattle.std.proofs.lemmas.Int.{to_z-of_z}
use Rattle.format_model.specs.Weights.{diagonal_len}
use Rattle.job_files.proofs.format_weights.diagonals_weight.Goals as goal

pub diagonals-preserved : goal.diagonals-preserved
diagonals-preserved c =
    let len = diagonal_len c.args.rows c.args.cols in
    let offset : ℤ = get_or c.args.offsets.now c.diagonals.offset-index (pos 0) in
    let fits : FitsSigned w64 offset = search rules in
    let next : c.diagonal_len.result ≡ len offset = c.diagonal_len.ensures ∙ ap len (to_z-of_z w64 offset fits) in
    let more = sum_by_more len c.args.offsets.now c.diagonals.offset-index (pos 0) c.diagonals-test.true in
    record {
      weight = cc (c.diagonals.invariant.weight, next, more);
      within = omega (arith, c.diagonals.invariant.within, c.diagonal_len.type_inv);
    }
