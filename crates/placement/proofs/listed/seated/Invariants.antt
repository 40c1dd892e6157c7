-- The seats of the entries so far, and for each rank their indices.
use Rattle.std.proofs.Common.{◌≡◌, take, map}
use Rattle.placement.specs.Part.{dealt}
use Rattle.placement.proofs.ListedLemmas.{seat_of}
use Rattle.placement.proofs.listed.seated.Given as goal

abbrev pub invariant-loop-entry : goal.invariant-loop-entry
invariant-loop-entry l = record {
  seats : l.seats ≡ map (seat_of l.entries) (take l.entry-index l.entries);
  globals : l.globals ≡ dealt (λ e. e.col) (λ e. e.row) l.ranks (take l.entry-index l.entries);
}
