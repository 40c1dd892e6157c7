use Rattle.std.proofs.Common.{◌≡◌, ◌+◌, length, take}
use Rattle.std.specs.List.{sum_by}
use Rattle.split_exec.specs.Settings.{Setting, setting}
use Rattle.split_exec.proofs.RecallLemmas.{Recalls}
use Rattle.split_exec.proofs.boundary.outer.Given as goal

abbrev pub invariant-terms : goal.invariant-terms
invariant-terms g l =
    let s : Setting = setting g.P.Placement.triples g.P.Placement.ranks g.V.Access.tree g.V.Cells.grid l.job l.places l.nest l.stores in record {
      sums : Recalls s l.rank (take l.at l.planned) l.inbox.sets l.fn.delta l.delta;
      count : length l.delta ≡ length l.fn.delta;
      cost : l.steps ≡ l.fn.steps + sum_by length (take l.at l.recorded);
    }
