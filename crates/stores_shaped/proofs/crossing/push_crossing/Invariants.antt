use Rattle.std.proofs.Common.{◌≡◌, ℕ, ◌+◌, ◌*◌, ◌<◌, ◌≤◌, ◌++◌, map, take}
use Rattle.bern_base.specs.declared.axes.Axis.TheVariants as axis
use Rattle.format_model.specs.Axes.{value_on}
use Rattle.stores_shaped.specs.Crossings.{IsSeen}
use Rattle.stores_shaped.specs.Diagonals.{column_on, offset_at}
use Rattle.stores_shaped.proofs.crossing.push_crossing.Given as goal

abbrev pub invariant-crossing : goal.invariant-crossing
invariant-crossing l = record {
  values : l.values.items ≡ l.initial.values.items ++ map (λ offset. value_on axis.Row l.part l.row (column_on l.global offset)) (take l.offset-index l.offsets);
  seen : (n : ℕ) → l.row * l.part.cols ≤ n → ((j : ℕ) → j < l.offset-index → l.row * l.part.cols + column_on l.global (offset_at l.offsets j) ≤ n) → IsSeen l.part n l.at;
}
