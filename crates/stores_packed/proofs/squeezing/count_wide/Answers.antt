use Rattle.std.proofs.Common.{◌∷◌, [], length, length-append, ap, arith}
use Rattle.std.specs.List.{filter, range_with_len}
use Rattle.stores_packed.specs.Lines.{is_wide}
use Rattle.stores_packed.proofs.RangeLemmas.{wide_more, wide_most, wide_skip}
use Rattle.stores_packed.proofs.squeezing.count_wide.Goals as goal
use Rattle.stores_packed.proofs.squeezing.count_wide.Goals.{then-from-line, else-from-line}

pub overflow_add-count : goal.overflow_add-count
overflow_add-count c = omega (arith, wide_most c.args.from.now c.counting.line, c.counting.invariant)

pub counting-preserved : goal.counting-preserved
counting-preserved c =
    let from = c.args.from.now in
    let line = c.counting.line in
    elim c.if-from-line.branch [
      | then-from-line w ↦
          let more = ap length (wide_more from line w.if-from-line.true) in
          let one = length-append (filter (is_wide from) (range_with_len 0 line)) (line ∷ []) in omega (arith, more, one, c.counting.invariant, w.count-is)
      | else-from-line w ↦ omega (arith, ap length (wide_skip from line w.if-from-line.false), c.counting.invariant, w.count-is)
    ]
