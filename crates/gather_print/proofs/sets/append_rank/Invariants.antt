-- The sets so far have their lines.
use Rattle.std.proofs.Common.{◌≡◌, ◌++◌, ◌==◌, [], take}
use Rattle.std.specs.Prelude.{if◌then◌else◌}
use Rattle.std.specs.List.{flat_map}
use Rattle.gather_print.specs.SetsText.{set_line}
use Rattle.gather_print.proofs.sets.append_rank.Given as goal

abbrev pub invariant-loop-set : goal.invariant-loop-set
invariant-loop-set l =
    l.text ≡ l.fn.text ++ flat_map (λ set. if set.nest == l.nest then set_line l.job l.rank set else []) (take l.set-index l.set-items)
