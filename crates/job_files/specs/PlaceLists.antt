-- The places that files list for the place lines of a job.
use Rattle.std.specs.Prelude.{◌≡◌, ℕ, ◌≤◌, ◌==◌, ◌&&◌, Bool, false, List, Option, Some, None, Result, Ok, Err, length, slice_get, ⊤}
use Rattle.std.specs.List.{All, AllZip, list_any}
use Rattle.std.specs.Str.{bytes_eq}
use Rattle.bern_base.specs.declared.job.Checked.{Checked}
use Rattle.bern_base.specs.declared.job.ExtentDecl.{ExtentDecl}
use Rattle.bern_base.specs.declared.job.PlaceDecl.{PlaceDecl}
use Rattle.bern_base.specs.declared.job.PlaceKind.{PlaceKind}
use Rattle.bern_base.specs.declared.job.PlaceKind.TheVariants as kind
use Rattle.bern_base.specs.declared.matrix.Entry.{Entry}
use Rattle.bern_base.specs.declared.matrix.Matrix.{Matrix}
use Rattle.bern_ports.specs.Files.{Files}
use Rattle.placement.specs.Listed.{listed_triples, seat_triples}
use Rattle.placement.specs.declared.listed.Listed.{Listed}
use Rattle.job_files.specs.Uses.{entries_in, size_of}
use Rattle.job_files.specs.declared.arrays.ArrayFiles.{ArrayFiles}
use Rattle.job_files.specs.declared.load_error.LoadError.{LoadError}
use Rattle.job_files.specs.declared.uses.Use.{Use}
use Rattle.job_files.specs.declared.uses.Use.TheVariants as by

-- each place was declared after some of the arrays, as in each job that the rules accept
abbrev pub AreAmong : Checked → Type 0
AreAmong job = All (λ place. place.arrays_before ≤ length job.arrays) job.places

-- the places of so many indices at so many ranks are read from this file in this use
abbrev pub is_place_of : List ℕ → ℕ → ℕ → Use → Bool
is_place_of name size ranks (by.Order file rows) = false
is_place_of name size ranks (by.Array file rows cols diagonals) = false
is_place_of name size ranks (by.Place file extent count) = bytes_eq file name && (extent == size && count == ranks)

-- these places are those that a matrix with these entries lists, of so many indices at so many ranks
pub record IsListOf (size ranks : ℕ) (entries : List Entry) (list : Listed) : Type 0 where
  pub ranks_are : length list.globals ≡ ranks
  pub extent : length (seat_triples list.seats) ≡ size
  pub triples : seat_triples list.seats ≡ listed_triples entries

-- the places of a use of this file, from the matrices that stand beside uses; none where there is no such use
pub record HasList (uses : List Use) (loaded : List Matrix) (file : List ℕ) (size ranks : ℕ) (list : Listed) : Type 0 where
  pub number : ℕ
  pub matrix : Matrix
  pub use_is : slice_get uses number ≡ Some (by.Place file size ranks)
  pub matrix_is : slice_get loaded number ≡ Some matrix
  pub is : IsListOf size ranks matrix.entries list

abbrev pub IsListFrom : List Use → List Matrix → List ℕ → ℕ → ℕ → Option Listed → Type 0
IsListFrom uses loaded file size ranks None = list_any (is_place_of file size ranks) uses ≡ false
IsListFrom uses loaded file size ranks (Some list) = HasList uses loaded file size ranks list

-- and those of a place line: other places than listed ones have none
abbrev pub IsKindFrom : List Use → List Matrix → ℕ → ℕ → PlaceKind → Option Listed → Type 0
IsKindFrom uses loaded size ranks (kind.Listed file) list = IsListFrom uses loaded file size ranks list
IsKindFrom uses loaded size ranks kind.Block list = list ≡ None
IsKindFrom uses loaded size ranks (kind.Cyclic block) list = list ≡ None

abbrev pub IsLineFrom : List Use → List Matrix → List ExtentDecl → ℕ → PlaceDecl → Option Listed → Type 0
IsLineFrom uses loaded extents ranks place list = IsKindFrom uses loaded (size_of (slice_get extents place.extent)) ranks place.kind list

-- a listed place of so many indices has the places that some matrix lists, and another place has none
abbrev pub IsSomeList : ℕ → ℕ → Option Listed → Type 0
IsSomeList size ranks None = ⊥
IsSomeList size ranks (Some list) = (entries : List Entry) × IsListOf size ranks entries list

abbrev pub IsKindList : ℕ → ℕ → PlaceKind → Option Listed → Type 0
IsKindList size ranks (kind.Listed file) list = IsSomeList size ranks list
IsKindList size ranks kind.Block list = list ≡ None
IsKindList size ranks (kind.Cyclic block) list = list ≡ None

abbrev pub IsPlaceList : List ExtentDecl → ℕ → PlaceDecl → Option Listed → Type 0
IsPlaceList extents ranks place list = IsKindList (size_of (slice_get extents place.extent)) ranks place.kind list

-- where files are told, the matrix is the one of the file that the place line names
abbrev pub IsListIn : Files → ℕ → ℕ → List ℕ → Option Listed → Type 0
IsListIn files size ranks file None = ⊥
IsListIn files size ranks file (Some list) = IsListOf size ranks (entries_in files file) list

abbrev pub IsKindListIn : Files → ℕ → ℕ → PlaceKind → Option Listed → Type 0
IsKindListIn files size ranks (kind.Listed file) list = IsListIn files size ranks file list
IsKindListIn files size ranks kind.Block list = list ≡ None
IsKindListIn files size ranks (kind.Cyclic block) list = list ≡ None

abbrev pub IsPlaceListIn : Files → List ExtentDecl → ℕ → PlaceDecl → Option Listed → Type 0
IsPlaceListIn files extents ranks place list = IsKindListIn files (size_of (slice_get extents place.extent)) ranks place.kind list

-- the lists of a job's places, of what is loaded
abbrev pub HasListsIn : Files → ℕ → Checked → Result ArrayFiles LoadError → Type 0
HasListsIn files ranks job (Ok loaded) = AllZip (IsPlaceListIn files job.extents ranks) job.places loaded.lists
HasListsIn files ranks job (Err fault) = ⊤
