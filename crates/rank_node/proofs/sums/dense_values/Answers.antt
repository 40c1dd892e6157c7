use Rattle.std.proofs.Common.{◌*◌, refl, ap, ◌∙◌}
use Rattle.bern_base.specs.Matrix.{matrix_values}
use Rattle.rank_node.proofs.SumLemmas.{values_from_sums}
use Rattle.rank_node.proofs.sums.dense_values.Goals as goal

pub returns : goal.returns
returns c =
    let rows = c.args.matrix.now.rows in
    let cols = c.args.matrix.now.cols in
    c.from_vec.ensures ∙
    values_from_sums rows cols c.as_slice-entry-items.result.now (rows * cols) c.loop-entry.entry-index c.loop-entry.values.items refl c.loop-entry-test.false c.loop-entry.invariant.summed c.loop-entry.invariant.reduced ∙
    ap (matrix_values rows cols) c.as_slice-entry-items.ensures
