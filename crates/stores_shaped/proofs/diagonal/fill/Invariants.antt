use Rattle.std.proofs.Common.{◌≡◌, ◌*◌}
use Rattle.std.specs.List.{flat_map, range_with_len}
use Rattle.stores_shaped.specs.Crossings.{IsSeen, row_values}
use Rattle.stores_shaped.proofs.diagonal.fill.Given as goal

abbrev pub invariant-rows : goal.invariant-rows
invariant-rows l = record {
  values : l.values.items ≡ flat_map (row_values l.part l.offsets l.globals l.found.firsts.items l.found.starts.items) (range_with_len 0 l.row);
  seen : IsSeen l.part (l.row * l.part.cols) l.at;
}
