use Rattle.std.proofs.Common.{◌≡◌}
use Rattle.node_prog.specs.Visiting.{IsUnderWay, scene, turns_in}
use Rattle.prog_cases.proofs.visiting.hits_by_runs.Given as goal

abbrev pub invariant-runs : goal.invariant-runs
invariant-runs g l = record {
  visit : IsUnderWay (scene g.P.Placement.triples g.P.Placement.ranks g.V.Access.tree l.job l.places l.nest l.planned l.stores) l.visit;
  rank : l.visit.rank ≡ l.rank;
}

abbrev pub decreases-runs : goal.decreases-runs
decreases-runs g l = turns_in (scene g.P.Placement.triples g.P.Placement.ranks g.V.Access.tree l.job l.places l.nest l.planned l.stores) l.visit
