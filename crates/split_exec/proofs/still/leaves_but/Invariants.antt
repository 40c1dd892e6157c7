use Rattle.std.proofs.Common.{◌≡◌, ◌*◌, ◌%◌, ◌^◌}
use Rattle.split_exec.specs.Hits.{leaf_at}
use Rattle.split_exec.specs.Runs.{product_but}
use Rattle.split_exec.specs.Settings.{Setting, setting}
use Rattle.split_exec.proofs.still.leaves_but.Given as goal

abbrev pub invariant-references : goal.invariant-references
invariant-references g l =
    let s : Setting = setting g.P.Placement.triples g.P.Placement.ranks g.V.Access.tree g.V.Cells.grid l.job l.places l.nest l.stores in
    l.product % 2 ^ 64 ≡ l.fn.value * product_but l.reference (leaf_at s l.planned.term l.hit) l.at % 2 ^ 64
