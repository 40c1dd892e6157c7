-- Each use so far has its matrix, and the weight is that after their files.
use Rattle.std.proofs.Common.{◌≡◌, ◌≤◌, length, IfSome}
use Rattle.bern_base.specs.declared.limits.TheConstants.{MOST_WEIGHT}
use Rattle.bern_ports.specs.Frames.{KeepsShelf, shelf_state}
use Rattle.job_files.specs.Answers.{KeepsCounts}
use Rattle.job_files.specs.Serving.{Beside, IsFitFor, IsServedSoFar}
use Rattle.job_files.proofs.serving.load_uses.Given as goal

abbrev pub invariant-uses : goal.invariant-uses
invariant-uses g l = record {
  keeps : KeepsShelf (shelf_state g.F.Shelf l.fn.shelf) (shelf_state g.F.Shelf l.shelf);
  calm : IfSome (g.F.Shelf.files l.fn.shelf) (λ fs. KeepsCounts (shelf_state g.F.Shelf l.fn.shelf) (shelf_state g.F.Shelf l.shelf));
  count : length l.matrices ≡ l.wanted-index;
  light : l.total ≤ MOST_WEIGHT;
  grows : l.weight ≤ l.total;
  fit : Beside (IsFitFor l.weight l.uses) l.uses l.matrices;
  told : IfSome (g.F.Shelf.files l.fn.shelf) (λ fs. IsServedSoFar fs l.weight l.uses l.matrices l.total);
}
