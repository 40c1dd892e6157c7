use Rattle.std.proofs.Common.{length}
use Rattle.format_model.specs.Grids.{SameBranches}
use Rattle.split_exec.specs.Applying.{HasSize, IsAdded}
use Rattle.split_exec.proofs.replacing.add_sums.Given as goal

abbrev pub invariant-elements : goal.invariant-elements
invariant-elements g l = record {
  size : HasSize (g.D.Cells.grid l.target) (length l.delta);
  added : IsAdded l.at l.delta (g.D.Cells.grid l.fn.target) (g.D.Cells.grid l.target);
  branches : SameBranches (g.D.Access.tree l.fn.target) (g.D.Access.tree l.target);
}
