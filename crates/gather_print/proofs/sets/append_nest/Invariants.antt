-- The ranks so far have their lines.
use Rattle.std.proofs.Common.{◌≡◌, ◌++◌, slice_get}
use Rattle.std.specs.List.{flat_map, range_with_len}
use Rattle.gather_print.specs.SetsText.{numbered_text}
use Rattle.gather_print.proofs.sets.append_nest.Given as goal

abbrev pub invariant-loop-rank : goal.invariant-loop-rank
invariant-loop-rank l = l.text ≡ l.fn.text ++ flat_map (λ rank. numbered_text l.job l.nest rank (slice_get l.needs rank)) (range_with_len 0 l.rank)
