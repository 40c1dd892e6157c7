use Rattle.std.proofs.Common.{◌≡◌, map}
use Rattle.std.specs.List.{range_with_len}
use Rattle.format_model.specs.Grids.{value_of_element}
use Rattle.formats.specs.AnyStores.{any_grid}
use Rattle.job_runs.proofs.printing.store_values.Given as goal

abbrev pub invariant-loop-element : goal.invariant-loop-element
invariant-loop-element l = l.values ≡ map (value_of_element (any_grid l.store)) (range_with_len 0 l.element)
