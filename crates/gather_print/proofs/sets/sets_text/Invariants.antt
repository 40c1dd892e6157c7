-- The nests so far have their lines.
use Rattle.std.proofs.Common.{◌≡◌}
use Rattle.std.specs.List.{flat_map, range_with_len}
use Rattle.gather_print.specs.SetsText.{nest_text}
use Rattle.gather_print.proofs.sets.sets_text.Given as goal

abbrev pub invariant-loop-nest : goal.invariant-loop-nest
invariant-loop-nest l = l.text ≡ flat_map (nest_text l.job l.needs) (range_with_len 0 l.nest)
