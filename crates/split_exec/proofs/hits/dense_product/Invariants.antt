use Rattle.std.proofs.Common.{◌≡◌, ◌*◌, ◌%◌, ◌^◌, true, map, take}
use Rattle.std.specs.List.{list_all}
use Rattle.job_model.specs.Values.{product_of}
use Rattle.pass_model.specs.Interior.{is_own}
use Rattle.split_exec.specs.Hits.{cell_at}
use Rattle.split_exec.specs.Settings.{Setting, setting}
use Rattle.split_exec.proofs.hits.dense_product.Given as goal

abbrev pub invariant-references : goal.invariant-references
invariant-references g l = record {
  own : list_all (is_own l.job (map g.P.Placement.triples l.places) l.rank l.hit.point) (take l.at l.planned.term.dense) ≡ true;
  value : (let s : Setting = setting g.P.Placement.triples g.P.Placement.ranks g.V.Access.tree g.V.Cells.grid l.job l.places l.nest l.stores in
      l.product % 2 ^ 64 ≡ l.planned.term.factor * product_of (map (cell_at s l.rank l.hit.point) (take l.at l.planned.term.dense)) % 2 ^ 64);
}
