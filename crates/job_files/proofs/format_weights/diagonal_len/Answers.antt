use Rattle.std.proofs.Common.{◌-◌, ◌≤ℤ◌, ◌<ℤ◌, pos, min, w64, sym, ap, ◌∙◌, arith}
use Rattle.std.specs.Int.RustNames.{unsigned_abs}
use Rattle.std.proofs.lemmas.Int.{ints, to_z-of_z}
use Rattle.job_files.proofs.DiagonalLemmas.{diagonal_left, diagonal_right}
use Rattle.job_files.proofs.format_weights.diagonal_len.Goals as goal

pub returns-then-offset-lt0 : goal.returns-then-offset-lt0
returns-then-offset-lt0 c =
    let below : c.args.offset <ℤ pos 0 = grind (arith, ints) in
    let away = c.unsigned_abs-away.ensures.value ∙ ap unsigned_abs (to_z-of_z w64 c.args.offset c.ranges.offset) in
    c.min.ensures ∙ ap (λ s. min s c.args.cols) (c.saturating_sub.ensures ∙ ap (λ a. c.args.rows - a) away) ∙ sym (diagonal_left c.args.rows c.args.cols c.args.offset below)

pub returns-else-offset-lt0 : goal.returns-else-offset-lt0
returns-else-offset-lt0 c =
    let above : pos 0 ≤ℤ c.args.offset = grind (arith, ints) in
    let away = c.unsigned_abs-away.ensures.value ∙ ap unsigned_abs (to_z-of_z w64 c.args.offset c.ranges.offset) in
    c.min-else-offset-lt0.ensures ∙ ap (λ s. min s c.args.rows) (c.saturating_sub-else-offset-lt0.ensures ∙ ap (λ a. c.args.cols - a) away)
    ∙ sym (diagonal_right c.args.rows c.args.cols c.args.offset above)
