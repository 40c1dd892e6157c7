use Rattle.mm_profile.specs.ArrayText.{column_text}
use Rattle.mm_text.proofs.AppendLemmas.{flat_map_range_more}
use Rattle.mm_text.proofs.array.append_columns.Goals as goal

pub loop-col-preserved : goal.loop-col-preserved
loop-col-preserved c =
    rw (c.in_ok-append_column.ensures.ok, c.loop-col.invariant) (flat_map_range_more (column_text c.args.rows c.args.cols c.args.values.now) c.args.out.now c.loop-col.col)
