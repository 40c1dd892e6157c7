use Rattle.std.proofs.Common.{◌≡◌, ◌+◌, ◌≤◌}
use Rattle.split_exec.specs.Runs.{hits_from}
use Rattle.split_exec.specs.Settings.{Setting, setting}
use Rattle.split_exec.proofs.runs.first_bound.Given as goal

abbrev pub invariant-places : goal.invariant-places
invariant-places g l =
    let s : Setting = setting g.P.Placement.triples g.P.Placement.ranks g.V.Access.tree g.V.Cells.grid l.job l.places l.nest l.stores in record {
      same : hits_from s l.planned l.rank l.line l.run l.run.place ≡ hits_from s l.planned l.rank l.line l.run l.place;
      order : l.run.place ≤ l.place;
      within : l.place ≤ l.run.end;
      cost : l.steps + l.run.place ≤ l.fn.steps + l.place;
    }
