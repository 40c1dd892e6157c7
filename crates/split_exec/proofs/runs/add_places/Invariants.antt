use Rattle.std.proofs.Common.{◌+◌, ◌≤◌}
use Rattle.std.specs.List.{All}
use Rattle.split_exec.specs.Hits.{IsSound, hits_add}
use Rattle.split_exec.specs.Runs.{GrowLeft, hits_from}
use Rattle.split_exec.specs.Settings.{Setting, setting}
use Rattle.split_exec.proofs.runs.add_places.Given as goal

abbrev pub invariant-places : goal.invariant-places
invariant-places g l =
    let s : Setting = setting g.P.Placement.triples g.P.Placement.ranks g.V.Access.tree g.V.Cells.grid l.job l.places l.nest l.stores in record {
      left : GrowLeft l.fn.delta (record { element = l.still.start; value = 0 }) l.delta l.held
          (hits_add s l.rank l.planned.term (hits_from s l.planned l.rank l.line l.run l.place)) (hits_add s l.rank l.planned.term (hits_from s l.planned l.rank l.line l.run l.first));
      sound : All (IsSound s l.rank l.planned.term) (hits_from s l.planned l.rank l.line l.run l.place);
      order : l.run.place ≤ l.place;
      within : l.place ≤ l.run.end;
      cost : l.steps + l.first ≤ l.fn.steps + l.place;
    }
