-- The nests so far have their texts.
use Rattle.std.proofs.Common.{◌≡◌, ◌++◌}
use Rattle.std.specs.List.{flat_map, range_with_len}
use Rattle.join_plan.specs.PlanText.{numbered_text}
use Rattle.join_plan.proofs.text.append_nests.Given as goal

abbrev pub invariant-loop-number : goal.invariant-loop-number
invariant-loop-number l = l.out ≡ l.fn.out ++ flat_map (numbered_text l.job l.plans) (range_with_len 0 l.number)
