use Rattle.std.proofs.Common.{◌≡◌, length}
use Rattle.std.specs.List.{filter, range_with_len}
use Rattle.stores_packed.specs.Lines.{is_wide}
use Rattle.stores_packed.proofs.squeezing.count_wide.Given as goal

abbrev pub invariant-counting : goal.invariant-counting
invariant-counting l = l.count ≡ length (filter (is_wide l.from) (range_with_len 0 l.line))
