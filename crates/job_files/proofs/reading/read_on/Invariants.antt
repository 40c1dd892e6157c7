use Rattle.std.proofs.Common.{◌≡◌, ◌+◌, ◌-◌, ◌≤◌, length, IsTrue, IfSome}
use Rattle.bern_ports.specs.Frames.{KeepsShelf, shelf_state}
use Rattle.job_files.specs.Answers.{KeepsCounts, Stands}
use Rattle.job_files.proofs.reading.read_on.Given as goal

abbrev pub invariant-file : goal.invariant-file
invariant-file g l = record {
  begun : IsTrue (g.F.Shelf.begun l.shelf);
  keeps : KeepsShelf (shelf_state g.F.Shelf l.fn.shelf) (shelf_state g.F.Shelf l.shelf);
  current : IfSome (g.F.Shelf.files l.fn.shelf) (λ fs. g.F.Shelf.current l.shelf ≡ l.name);
  calm : KeepsCounts (shelf_state g.F.Shelf l.fn.shelf) (shelf_state g.F.Shelf l.shelf);
  few : length l.bytes ≤ l.limit + 1;
  told : IfSome (g.F.Shelf.files l.fn.shelf) (λ fs. Stands fs l.name l.bytes (g.F.Shelf.left l.shelf));
}

abbrev pub decreases-file : goal.decreases-file
decreases-file g l = l.limit + 1 - length l.bytes
