-- So far there is an empty list for each rank; and then the entries so far stand in the lists of their ranks.
use Rattle.std.proofs.Common.{◌≡◌, take}
use Rattle.placement.specs.Part.{dealt, owner_of_entry, localized}
use Rattle.placement.proofs.part.dealt_entries.Given as goal

abbrev pub invariant-loop-entry : goal.invariant-loop-entry
invariant-loop-entry g l = l.lists ≡ dealt (owner_of_entry l.axis (g.P.Placement.triples l.place)) (localized l.axis (g.P.Placement.triples l.place)) l.ranks (take l.entry-index l.entries)
