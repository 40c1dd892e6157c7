-- The uses of a job's files, the files by first mention, and what the arrays of a job begin with: zeros, or the matrix of a file.
use Rattle.std.specs.Prelude.{◌≡◌, ℕ, ◌+◌, ◌≤◌, ◌==◌, Bool, true, false, not, if◌then◌else◌, List, [], ◌∷◌, ◌++◌, ℤ, Option, Some, None, is_some, Result, Ok, Err, length, map, slice_get}
use Rattle.std.specs.List.{filter, flat_map}
use Rattle.std.specs.Str.{bytes_eq}
use Rattle.bern_base.specs.Matrix.{IsMatrix}
use Rattle.bern_base.specs.declared.job.ArrayDecl.{ArrayDecl}
use Rattle.bern_base.specs.declared.job.Checked.{Checked}
use Rattle.bern_base.specs.declared.job.ExtentDecl.{ExtentDecl}
use Rattle.bern_base.specs.declared.job.FormatDecl.{FormatDecl}
use Rattle.bern_base.specs.declared.job.PlaceDecl.{PlaceDecl}
use Rattle.bern_base.specs.declared.job.PlaceKind.{PlaceKind}
use Rattle.bern_base.specs.declared.job.PlaceKind.TheVariants as kind
use Rattle.bern_base.specs.declared.limits.TheConstants.{MOST_WEIGHT}
use Rattle.bern_base.specs.declared.matrix.Entry.{Entry}
use Rattle.bern_base.specs.declared.matrix.Matrix.{Matrix}
use Rattle.bern_base.specs.declared.shape.Shape.{Shape}
use Rattle.bern_base.specs.declared.shape.Shape.TheVariants as shape
use Rattle.bern_ports.specs.Files.{Files, bytes_of}
use Rattle.mm_profile.specs.Profile.{Fault, mm}
use Rattle.job_files.specs.declared.uses.Use.{Use}
use Rattle.job_files.specs.declared.uses.Use.TheVariants as by

abbrev pub file_of : Use → List ℕ
file_of (by.Order file rows) = file
file_of (by.Array file rows cols diagonals) = file
file_of (by.Place file extent ranks) = file

abbrev pub is_of : List ℕ → Use → Bool
is_of name u = bytes_eq (file_of u) name

-- each file once, where it is first mentioned
abbrev pub mentioned : List Use → List (List ℕ)
mentioned [] = []
mentioned (u ∷ uses) = file_of u ∷ filter (λ name. not (is_of name u)) (mentioned uses)

-- the offsets of the diagonals that a diagonal format lists
abbrev pub listed_in : Shape → Option (List ℤ)
listed_in (shape.Diagonal offsets) = Some offsets
listed_in other = None

-- the file that a permute format names
abbrev pub named_in : Shape → Option (List ℕ)
named_in (shape.Permute file) = Some file
named_in other = None

abbrev pub listed_by : Option FormatDecl → Option (List ℤ)
listed_by None = None
listed_by (Some format) = listed_in format.shape

abbrev pub named_by : Option FormatDecl → Option (List ℕ)
named_by None = None
named_by (Some format) = named_in format.shape

-- the listed diagonals of an array's format, and the file that has the order of its rows
abbrev pub diagonals_of : List FormatDecl → ArrayDecl → Option (List ℤ)
diagonals_of formats array = listed_by (slice_get formats array.format)

abbrev pub order_of : List FormatDecl → ArrayDecl → Option (List ℕ)
order_of formats array = named_by (slice_get formats array.format)

-- the use of a file for the order of an array's rows
abbrev pub order_use : ArrayDecl → Option (List ℕ) → List Use
order_use array None = []
order_use array (Some file) = by.Order file array.rows ∷ []

-- the use of a file by an array that is read from it
abbrev pub file_use : ArrayDecl → Option (List ℤ) → Option (List ℕ) → List Use
file_use array diagonals None = []
file_use array diagonals (Some file) = by.Array file array.rows array.cols diagonals ∷ []

-- the uses of files by an array: the file that its format names is mentioned right before its own
abbrev pub uses_by : List FormatDecl → ArrayDecl → List Use
uses_by formats array = order_use array (order_of formats array) ++ file_use array (diagonals_of formats array) array.file

-- how many indices an extent has
abbrev pub size_of : Option ExtentDecl → ℕ
size_of None = 0
size_of (Some extent) = extent.size

-- the use of a file that lists at which of so many ranks each index of an extent is
abbrev pub kind_use : ℕ → ℕ → PlaceKind → List Use
kind_use size ranks (kind.Listed file) = by.Place file size ranks ∷ []
kind_use size ranks other = []

abbrev pub place_use : ℕ → List ExtentDecl → PlaceDecl → List Use
place_use ranks extents place = kind_use (size_of (slice_get extents place.extent)) ranks place.kind

-- the uses of files by the places that are declared after so many arrays, and before the next one
abbrev pub places_after : ℕ → Checked → ℕ → List Use
places_after ranks job number = flat_map (place_use ranks job.extents) (filter (λ place. place.arrays_before == number) job.places)

-- the uses of files by these arrays, the first of them with this number, and by the places among and after them
abbrev pub uses_from : ℕ → Checked → ℕ → List ArrayDecl → List Use
uses_from ranks job number [] = places_after ranks job number
uses_from ranks job number (array ∷ arrays) = places_after ranks job number ++ (uses_by job.formats array ++ uses_from ranks job (number + 1) arrays)

-- the uses of files by the places and the arrays of a job on so many ranks, in the order of their lines
abbrev pub uses_of : ℕ → Checked → List Use
uses_of ranks job = uses_from ranks job 0 job.arrays

-- a job with these places for its own
abbrev pub with_places : List PlaceDecl → Checked → Checked
with_places places job = record {
  extents = job.extents;
  places = places;
  formats = job.formats;
  arrays = job.arrays;
  nests = job.nests;
  turns = job.turns;
  prints = job.prints;
}

-- the job whose files are walked for a plan: which rank has an index makes no plan another one, so places mention no file
abbrev pub unplaced : Checked → Checked
unplaced job = with_places [] job

-- an array is read from the file in this use
abbrev pub is_array : Use → Bool
is_array (by.Order file rows) = false
is_array (by.Array file rows cols diagonals) = true
is_array (by.Place file extent ranks) = false

-- of the matrices that stand beside uses, those that arrays are read from
abbrev pub array_matrices : List Use → List Matrix → List Matrix
array_matrices [] ms = []
array_matrices (u ∷ uses) [] = []
array_matrices (u ∷ uses) (m ∷ ms) = if is_array u then m ∷ array_matrices uses ms else array_matrices uses ms

-- the entries of a file's matrix; where it has none there are no entries
abbrev pub entries_of : Result Matrix Fault → List Entry
entries_of (Ok m) = m.entries
entries_of (Err fault) = []

abbrev pub entries_read : Option (List ℕ) → List Entry
entries_read None = []
entries_read (Some bytes) = entries_of (mm bytes)

abbrev pub entries_in : Files → List ℕ → List Entry
entries_in files name = entries_read (bytes_of files name)

-- a matrix of an array's sizes, of no more entries than all arrays may weigh
pub record IsArray (array : ArrayDecl) (m : Matrix) : Type 0 where
  pub matrix : IsMatrix m
  pub rows : m.rows ≡ array.rows
  pub cols : m.cols ≡ array.cols
  pub few : length m.entries ≤ MOST_WEIGHT

-- an array by its sizes and these entries
abbrev pub with_entries : ArrayDecl → List Entry → Matrix
with_entries array entries = record { rows = array.rows; cols = array.cols; entries = entries }

-- an array with `zero` has no entries
abbrev pub entries_from : (List ℕ → List Entry) → Option (List ℕ) → List Entry
entries_from files None = []
entries_from files (Some name) = files name

abbrev pub matrix_from : (List ℕ → List Entry) → ArrayDecl → Matrix
matrix_from files array = with_entries array (entries_from files array.file)

-- the arrays of a job as matrices
abbrev pub matrices_from : (List ℕ → List Entry) → List ArrayDecl → List Matrix
matrices_from files arrays = map (matrix_from files) arrays

-- the matrix of an array: of those that are left the next one where it is read from a file, and one without entries else
abbrev pub taken : ArrayDecl → Option (List ℕ) → List Matrix → Matrix
taken array None ms = with_entries array []
taken array (Some file) [] = with_entries array []
taken array (Some file) (m ∷ ms) = m

-- those that are left after the one of a file
abbrev pub left_by : Option (List ℕ) → List Matrix → List Matrix
left_by None ms = ms
left_by (Some file) [] = []
left_by (Some file) (m ∷ ms) = ms

-- an array is read from a file
abbrev pub has_file : ArrayDecl → Bool
has_file array = is_some array.file

-- a matrix for each array, from those that arrays are read from
abbrev pub spread : List ArrayDecl → List Matrix → List Matrix
spread [] ms = []
spread (array ∷ arrays) ms = taken array array.file ms ∷ spread arrays (left_by array.file ms)
