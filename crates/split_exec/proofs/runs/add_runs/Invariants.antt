use Rattle.std.proofs.Common.{◌≡◌, ◌+◌, ◌≤◌}
use Rattle.std.specs.List.{All}
use Rattle.node_prog.specs.Visiting.{IsUnderWay, budget_in, left_in, turns_in}
use Rattle.split_exec.specs.Hits.{IsSound, Owe, hits_add}
use Rattle.split_exec.specs.Settings.{Setting, scene_of, setting}
use Rattle.split_exec.proofs.runs.add_runs.Given as goal

abbrev pub invariant-runs : goal.invariant-runs
invariant-runs g l =
    let s : Setting = setting g.P.Placement.triples g.P.Placement.ranks g.V.Access.tree g.V.Cells.grid l.job l.places l.nest l.stores in record {
      visit : IsUnderWay (scene_of s l.planned) l.visit;
      rank : l.visit.rank ≡ l.rank;
      sound : All (IsSound s l.rank l.planned.term) (left_in (scene_of s l.planned) l.visit);
      owe : Owe l.delta (hits_add s l.rank l.planned.term (left_in (scene_of s l.planned) l.visit)) l.fn.delta (hits_add s l.rank l.planned.term (left_in (scene_of s l.planned) l.fn.visit));
      cost : l.steps + budget_in (scene_of s l.planned) l.visit ≤ l.fn.steps + budget_in (scene_of s l.planned) l.fn.visit;
    }

abbrev pub decreases-runs : goal.decreases-runs
decreases-runs g l = turns_in (scene_of (setting g.P.Placement.triples g.P.Placement.ranks g.V.Access.tree g.V.Cells.grid l.job l.places l.nest l.stores) l.planned) l.visit
