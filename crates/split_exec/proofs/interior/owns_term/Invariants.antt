use Rattle.std.proofs.Common.{map, take}
use Rattle.std.specs.List.{All}
use Rattle.split_exec.specs.Hits.{OwnsWhole}
use Rattle.split_exec.proofs.interior.owns_term.Given as goal

abbrev pub invariant-references : goal.invariant-references
invariant-references g l = All (OwnsWhole l.job (map g.P.Placement.triples l.places) l.rank) (take l.at l.planned.term.dense)
