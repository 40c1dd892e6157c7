use Rattle.std.proofs.Common.{◌≡◌, ◌*◌, ◌%◌, ◌^◌, map}
use Rattle.std.specs.List.{range_with_len}
use Rattle.job_model.specs.Values.{product_of}
use Rattle.split_exec.specs.Recorded.{Source, dense_of, source}
use Rattle.split_exec.proofs.records.slot_product.Given as goal

abbrev pub invariant-references : goal.invariant-references
invariant-references g l =
    (let f : Source = source g.V.Access.tree g.V.Cells.grid l.stores l.inbox.sets in
    l.product % 2 ^ 64 ≡ l.planned.term.factor * product_of (map (dense_of f l.planned.term l.recorded) (range_with_len 0 l.at)) % 2 ^ 64)
