use Rattle.std.proofs.Common.{◌≡◌, ℕ, ◌<◌, ◌≤◌, length, true, Some}
use Rattle.std.specs.Prelude.{slice_get}
use Rattle.bern_base.specs.declared.job.Ref.{Ref}
use Rattle.split_exec.specs.Runs.{stays}
use Rattle.split_exec.proofs.still.next_moving.Given as goal

abbrev pub invariant-references : goal.invariant-references
invariant-references l = record {
  stay : (k : ℕ) (ref : Ref) → slice_get l.references k ≡ Some ref → l.from ≤ k → k < l.at → stays l.var ref ≡ true;
  order : l.from ≤ l.at;
  within : l.at ≤ length l.references;
}
