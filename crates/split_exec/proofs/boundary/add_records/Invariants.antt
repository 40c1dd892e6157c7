use Rattle.std.proofs.Common.{◌≡◌, ◌+◌, take}
use Rattle.split_exec.specs.Hits.{Grow}
use Rattle.split_exec.specs.Recorded.{Source, records_add, source}
use Rattle.split_exec.proofs.boundary.add_records.Given as goal

abbrev pub invariant-records : goal.invariant-records
invariant-records g l =
    let f : Source = source g.V.Access.tree g.V.Cells.grid l.stores l.inbox.sets in record {
      grows : Grow l.fn.delta l.delta (records_add f l.planned.term (take l.at l.records));
      cost : l.steps ≡ l.fn.steps + l.at;
    }
