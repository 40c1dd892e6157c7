-- The feed stands for what was read so far.
use Rattle.std.proofs.Common.{◌≡◌, ℕ, ◌+◌, List, length, IsTrue, IfSome}
use Rattle.bern_base.specs.declared.limits.TheConstants.{MOST_FILE_BYTES}
use Rattle.bern_ports.specs.Frames.{KeepsShelf, shelf_state}
use Rattle.mm_text.specs.Feeds.{StandsForBytes}
use Rattle.job_files.specs.Answers.{KeepsCounts, Stands}
use Rattle.job_files.proofs.matrix_file.feed_file.Given as goal

abbrev pub invariant-file : goal.invariant-file
invariant-file g l = record {
  begun : IsTrue (g.F.Shelf.begun l.shelf);
  keeps : KeepsShelf (shelf_state g.F.Shelf l.fn.shelf) (shelf_state g.F.Shelf l.shelf);
  current : IfSome (g.F.Shelf.files l.fn.shelf) (λ fs. g.F.Shelf.current l.shelf ≡ l.name);
  calm : KeepsCounts (shelf_state g.F.Shelf l.fn.shelf) (shelf_state g.F.Shelf l.shelf);
  told : IfSome (g.F.Shelf.files l.fn.shelf)
      (λ fs. (bytes : List ℕ) × Stands fs l.name bytes (g.F.Shelf.left l.shelf) × StandsForBytes l.feed bytes × (length bytes + l.left ≡ MOST_FILE_BYTES + 1));
}

abbrev pub decreases-file : goal.decreases-file
decreases-file g l = l.left
