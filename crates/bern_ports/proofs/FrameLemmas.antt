-- The frame of calls on a shelf in a row.
use Rattle.std.proofs.Common.{◌≡◌, ℕ, ◌≤◌, refl, ◌∙◌, arith}
use Rattle.bern_ports.specs.Frames.{KeepsShelf, ShelfState}

pub keeps_same : (s : ShelfState) → KeepsShelf s s
keeps_same s = record { files = refl; sure = refl; faults = omega arith; faults_on = λ name. omega arith }

pub keeps_then : (a b c : ShelfState) → KeepsShelf a b → KeepsShelf b c → KeepsShelf a c
keeps_then a b c first second = record {
  files = second.files ∙ first.files;
  sure = second.sure ∙ first.sure;
  faults = omega (arith, first.faults, second.faults);
  faults_on = λ name. omega (arith, first.faults_on name, second.faults_on name);
}
