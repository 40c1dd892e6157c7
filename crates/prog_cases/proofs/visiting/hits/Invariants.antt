use Rattle.std.proofs.Common.{length}
use Rattle.node_prog.specs.Visiting.{IsUnderWay, left_in, scene}
use Rattle.prog_cases.proofs.visiting.hits.Given as goal

abbrev pub invariant-hits : goal.invariant-hits
invariant-hits g l = IsUnderWay (scene g.P.Placement.triples g.P.Placement.ranks g.V.Access.tree l.job l.places l.nest l.planned l.stores) l.visit

abbrev pub decreases-hits : goal.decreases-hits
decreases-hits g l = length (left_in (scene g.P.Placement.triples g.P.Placement.ranks g.V.Access.tree l.job l.places l.nest l.planned l.stores) l.visit)
