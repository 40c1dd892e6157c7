use Rattle.std.proofs.Common.{◌≡◌, get_or}
use Rattle.stores_shaped.specs.Crossings.{AreWindows}
use Rattle.stores_shaped.proofs.crossing.find_windows.Given as goal

abbrev pub invariant-crossing : goal.invariant-crossing
invariant-crossing l = record {
  are : AreWindows l.cols l.offsets l.globals l.row l.firsts.items l.starts.items;
  total : l.total ≡ get_or l.starts.items l.row 0;
}
