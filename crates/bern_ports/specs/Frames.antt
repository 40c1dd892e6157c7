-- What a call leaves of a shelf and of a sink: their states before and after it.
use Rattle.std.specs.Prelude.{◌≡◌, ℕ, ◌≤◌, Bool, List, Option}
use Rattle.bern_ports.specs.Files.{Files}
use Rattle.bern_ports.specs.declared.ports.Shelf as shelf
use Rattle.bern_ports.specs.declared.ports.Sink as sink

-- a shelf at one moment: its files where they are told, whether it is sure, and its counts of faults, of all calls and by name
pub record ShelfState : Type 0 where
  pub files : Option Files
  pub sure : Bool
  pub faults : ℕ
  pub faults_on : List ℕ → ℕ

abbrev pub shelf_state : {F : Type 0} → shelf.Ghosts F → F → ShelfState
shelf_state g s = record { files = g.files s; sure = g.sure s; faults = g.faults s; faults_on = g.faults_on s }

-- the files and the sureness stay, and no count of faults falls
pub record KeepsShelf (before after : ShelfState) : Type 0 where
  pub files : after.files ≡ before.files
  pub sure : after.sure ≡ before.sure
  pub faults : before.faults ≤ after.faults
  pub faults_on : (name : List ℕ) → before.faults_on name ≤ after.faults_on name

-- a sink over a call: what it held before and after where that is told, and its counts of faults
pub record Port : Type 0 where
  pub old : Option (List ℕ)
  pub new : Option (List ℕ)
  pub before : ℕ
  pub now : ℕ

abbrev pub port : {S : Type 0} → sink.Ghosts S → S → S → Port
port g old new = record { old = g.written old; new = g.written new; before = g.faults old; now = g.faults new }
