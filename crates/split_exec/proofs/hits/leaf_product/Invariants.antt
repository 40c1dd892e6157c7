use Rattle.std.proofs.Common.{◌≡◌, ◌*◌, ◌%◌, ◌^◌, map}
use Rattle.std.specs.List.{range_with_len}
use Rattle.job_model.specs.Values.{product_of}
use Rattle.split_exec.specs.Hits.{leaf_at}
use Rattle.split_exec.specs.Settings.{Setting, setting}
use Rattle.split_exec.proofs.hits.leaf_product.Given as goal

abbrev pub invariant-references : goal.invariant-references
invariant-references g l =
    (let s : Setting = setting g.P.Placement.triples g.P.Placement.ranks g.V.Access.tree g.V.Cells.grid l.job l.places l.nest l.stores in
    l.product % 2 ^ 64 ≡ l.fn.value * product_of (map (leaf_at s l.planned.term l.hit) (range_with_len 0 l.at)) % 2 ^ 64)
