use Rattle.std.proofs.Common.{◌≡◌, ℕ, ◌<◌, Some}
use Rattle.bern_ports.specs.Files.{place_of, file_at}
use Rattle.bern_ports.proofs.mem_shelf.are_once.Given as goal

abbrev pub invariant-loop-at : goal.invariant-loop-at
invariant-loop-at l = (k : ℕ) → k < l.at → place_of l.files (file_at l.files k).0 ≡ Some k
