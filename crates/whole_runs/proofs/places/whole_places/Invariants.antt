-- The lines so far have their places.
use Rattle.std.proofs.Common.{◌≡◌, length}
use Rattle.whole_runs.proofs.PlaceLemmas.{AreFirst}
use Rattle.whole_runs.proofs.places.whole_places.Given as goal

abbrev pub invariant-loop-line : goal.invariant-loop-line
invariant-loop-line l = record {
  count : length l.places ≡ l.line-index;
  first : AreFirst l.job l.places;
}
