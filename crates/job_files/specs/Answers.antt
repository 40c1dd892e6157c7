-- What the answers of calls on a shelf say of its files and of its counts of faults.
use Rattle.std.specs.Prelude.{◌≡◌, ◌≢◌, ℕ, ◌<◌, ◌≤◌, List, ◌++◌, length, Option, Some, None, Ok, Err, IsSome, IfSome, IsTrue, ⊤}
use Rattle.std.specs.declared.result.Result.{Result}
use Rattle.bern_base.specs.declared.matrix.Matrix.{Matrix}
use Rattle.bern_base.specs.declared.refusal.Refusal.{Refusal}
use Rattle.bern_base.specs.declared.refusal.Refusal.TheVariants.{File}
use Rattle.mm_profile.specs.Profile.{Fault, mm}
use Rattle.bern_ports.specs.Causes.{Rose}
use Rattle.bern_ports.specs.Files.{Files, bytes_of}
use Rattle.bern_ports.specs.Frames.{ShelfState}
use Rattle.job_files.specs.declared.load_error.LoadError.{LoadError}
use Rattle.job_files.specs.declared.load_error.LoadError.TheVariants as e

-- a fault is answered only where the count rose
abbrev pub RoseAtFault : {T : Type 0} → ℕ → ℕ → Result T LoadError → Type 0
RoseAtFault before after (Ok x) = ⊤
RoseAtFault before after (Err (e.Refused refusal)) = ⊤
RoseAtFault before after (Err (e.ReadFault file)) = Rose before after
RoseAtFault before after (Err e.NoMemory) = ⊤

-- no fault is answered
abbrev pub IsNoFault : {T : Type 0} → Result T LoadError → Type 0
IsNoFault (Ok x) = ⊤
IsNoFault (Err (e.Refused refusal)) = ⊤
IsNoFault (Err (e.ReadFault file)) = ⊥
IsNoFault (Err e.NoMemory) = ⊤

-- no count of a name changed
abbrev pub KeepsCounts : ShelfState → ShelfState → Type 0
KeepsCounts before after = (n : List ℕ) → after.faults_on n ≡ before.faults_on n

-- the blame for a fault: where the file is there its count rose and the shelf is not sure, and no other name's count changed
pub record IsBlamed (before after : ShelfState) (files : Files) (file : List ℕ) : Type 0 where
  pub own : IsSome (bytes_of files file) → Rose (before.faults_on file) (after.faults_on file) × (IsTrue before.sure → ⊥)
  pub others : (n : List ℕ) → n ≢ file → after.faults_on n ≡ before.faults_on n

-- the counts by name over a call: a fault has its blame, and without one no count changed; want of memory is free
abbrev pub BlamesOne : {T : Type 0} → ShelfState → ShelfState → Result T LoadError → Files → Type 0
BlamesOne before after (Ok x) files = KeepsCounts before after
BlamesOne before after (Err (e.Refused refusal)) files = KeepsCounts before after
BlamesOne before after (Err (e.ReadFault file)) files = IsBlamed before after files file
BlamesOne before after (Err e.NoMemory) files = ⊤

-- the cause of an answer: a fault is answered only where the count of all faults rose, and over told files it has its blame
pub record HasFaultCause {T : Type 0} (before after : ShelfState) (result : Result T LoadError) : Type 0 where
  pub fault : RoseAtFault before.faults after.faults result
  pub blame : IfSome before.files (BlamesOne before after result)

-- a fault at this file, or want of memory
abbrev pub IsFaultAt : List ℕ → LoadError → Type 0
IsFaultAt name (e.Refused refusal) = ⊥
IsFaultAt name (e.ReadFault file) = file ≡ name
IsFaultAt name e.NoMemory = ⊤

-- these bytes of the file were read, and reading stands before the others
abbrev pub Stands : Files → List ℕ → List ℕ → Option (List ℕ) → Type 0
Stands files name bytes left = (back : List ℕ) × (left ≡ Some back) × (bytes_of files name ≡ Some (bytes ++ back))

-- of the file at most so many bytes were taken, from its front; the others are left
abbrev pub TakesAtMost : ℕ → Files → List ℕ → Option (List ℕ) → Type 0
TakesAtMost most files name left = (bytes : List ℕ) × Stands files name bytes left × (length bytes ≤ most)

-- the whole of a file that is not too long, or that it is; a fault is at this file
abbrev pub ReadsWhole : Files → List ℕ → ℕ → Result (Option (List ℕ)) LoadError → Type 0
ReadsWhole files name limit (Ok (Some bytes)) = (bytes_of files name ≡ Some bytes) × (length bytes ≤ limit)
ReadsWhole files name limit (Ok None) = (bytes : List ℕ) × (bytes_of files name ≡ Some bytes) × (limit < length bytes)
ReadsWhole files name limit (Err fault) = IsFaultAt name fault

-- this refusal, or want of memory
abbrev pub IsRefusalOf : Refusal → LoadError → Type 0
IsRefusalOf refusal (e.Refused r) = r ≡ refusal
IsRefusalOf refusal (e.ReadFault file) = ⊥
IsRefusalOf refusal e.NoMemory = ⊤

-- the matrix that was read of a file, or its refusal at the line of the first broken rule; want of memory is free
abbrev pub IsOf : List ℕ → Result Matrix Fault → Result Matrix LoadError → Type 0
IsOf name read (Ok m) = read ≡ Ok m
IsOf name read (Err (e.Refused refusal)) = (fault : Fault) × (read ≡ Err fault) × (refusal ≡ File name fault.0 fault.1)
IsOf name read (Err (e.ReadFault file)) = ⊥
IsOf name read (Err e.NoMemory) = ⊤

abbrev pub IsOfFile : Files → List ℕ → Result Matrix LoadError → Type 0
IsOfFile files name result = (bytes : List ℕ) × (bytes_of files name ≡ Some bytes) × IsOf name (mm bytes) result

-- the same for a file of that name; a fault is at this file
abbrev pub LoadsMatrix : Files → List ℕ → Result Matrix LoadError → Type 0
LoadsMatrix files name (Ok m) = IsOfFile files name (Ok m)
LoadsMatrix files name (Err (e.Refused refusal)) = IsOfFile files name (Err (e.Refused refusal))
LoadsMatrix files name (Err (e.ReadFault file)) = file ≡ name
LoadsMatrix files name (Err e.NoMemory) = ⊤
