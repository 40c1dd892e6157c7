use Rattle.std.proofs.Common.{◌≡◌, ◌++◌}
use Rattle.std.specs.List.{flat_map, range_with_len}
use Rattle.mm_profile.specs.ArrayText.{element_line}
use Rattle.mm_text.proofs.array.append_column.Given as goal

abbrev pub invariant-loop-row : goal.invariant-loop-row
invariant-loop-row l = l.out ≡ l.fn.out ++ flat_map (element_line l.cols l.values l.col) (range_with_len 0 l.row)
