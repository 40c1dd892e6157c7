use Rattle.std.proofs.Common.{◌≡◌, ℕ, ◌*◌, ◌%◌, ◌^◌, ◌<◌, true, Some, map}
use Rattle.std.specs.Prelude.{slice_get}
use Rattle.bern_base.specs.declared.job.Ref.{Ref}
use Rattle.pass_model.specs.Interior.{is_own}
use Rattle.split_exec.specs.Runs.{cell_by, product_but}
use Rattle.split_exec.specs.Settings.{Setting, setting}
use Rattle.split_exec.proofs.still.dense_but.Given as goal

abbrev pub invariant-references : goal.invariant-references
invariant-references g l = record {
  owns : (k : ℕ) (ref : Ref) → slice_get l.planned.term.dense k ≡ Some ref → k < l.at → (k ≡ l.moving → ⊥) → is_own l.job (map g.P.Placement.triples l.places) l.rank l.hit.point ref ≡ true;
  value : (let s : Setting = setting g.P.Placement.triples g.P.Placement.ranks g.V.Access.tree g.V.Cells.grid l.job l.places l.nest l.stores in
      l.product % 2 ^ 64 ≡ l.planned.term.factor * product_but l.moving (cell_by s l.rank l.planned.term l.hit.point) l.at % 2 ^ 64);
}
