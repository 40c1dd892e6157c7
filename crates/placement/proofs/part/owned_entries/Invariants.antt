-- What is kept so far is kept of the entries so far.
use Rattle.std.proofs.Common.{◌≡◌, take, map, filter}
use Rattle.placement.specs.Part.{localized, is_owned}
use Rattle.placement.proofs.part.owned_entries.Given as goal

abbrev pub invariant-loop-entry : goal.invariant-loop-entry
invariant-loop-entry g l = l.own ≡ map (localized l.axis (g.P.Placement.triples l.place)) (filter (is_owned l.axis (g.P.Placement.triples l.place) l.rank) (take l.entry-index l.entries))
