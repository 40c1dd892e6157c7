use Rattle.std.proofs.Common.{◌≡◌, ◌++◌}
use Rattle.std.specs.List.{flat_map, range_with_len}
use Rattle.mm_profile.specs.ArrayText.{column_text}
use Rattle.mm_text.proofs.array.append_columns.Given as goal

abbrev pub invariant-loop-col : goal.invariant-loop-col
invariant-loop-col l = l.out ≡ l.fn.out ++ flat_map (column_text l.rows l.cols l.values) (range_with_len 0 l.col)
