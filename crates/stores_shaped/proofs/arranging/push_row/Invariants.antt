use Rattle.std.proofs.Common.{◌≡◌, ◌-◌, ◌++◌, map}
use Rattle.bern_base.specs.declared.axes.Axis.TheVariants as axis
use Rattle.format_model.specs.Elements.{line_element}
use Rattle.stores_packed.specs.Lines.{stretch}
use Rattle.stores_shaped.proofs.arranging.push_row.Given as goal

abbrev pub invariant-copying : goal.invariant-copying
invariant-copying l = l.entries.items ≡ l.initial.entries.items ++ map (line_element axis.Row l.place) (stretch l.filled.indices.items l.filled.values.items l.from (l.k - l.from))
