-- The order of a job's files and of the F rules: the files by first mention, each with the rules of its uses and then the weight.
-- It ends with the matrix of each use, or stops at the first refusal or at a file that is not there.
use Rattle.std.specs.Prelude.{◌≡◌, ℕ, ◌+◌, ◌*◌, ◌≤◌, nat_lt, if◌then◌else◌, List, [], ◌∷◌, ◌++◌, length, ℤ, Option, Some, None, Result, Ok, Err, ⊤}
use Rattle.std.specs.List.{AllZip, count_by}
use Rattle.bern_base.specs.Matrix.{IsMatrix}
use Rattle.bern_base.specs.declared.job.ArrayDecl.{ArrayDecl}
use Rattle.bern_base.specs.declared.job.Checked.{Checked}
use Rattle.bern_base.specs.declared.job.FormatDecl.{FormatDecl}
use Rattle.bern_base.specs.declared.limits.TheConstants.{MOST_WEIGHT}
use Rattle.bern_base.specs.declared.matrix.Matrix.{Matrix}
use Rattle.bern_base.specs.declared.refusal.Rule.{Rule}
use Rattle.bern_base.specs.declared.refusal.Rule.TheVariants.{F7}
use Rattle.bern_base.specs.declared.refusal.Refusal.{Refusal}
use Rattle.bern_base.specs.declared.refusal.Refusal.TheVariants.{File}
use Rattle.bern_ports.specs.Files.{Files, bytes_of}
use Rattle.format_model.specs.Checks.{first_of, sizes_rule}
use Rattle.formats.specs.FileRules.{diagonals_rule, order_rule}
use Rattle.placement.specs.Listed.{listed_rule}
use Rattle.mm_profile.specs.Profile.{Fault, mm, and_then}
use Rattle.job_files.specs.Uses.{IsArray, diagonals_of, entries_in, file_of, is_of, matrices_from, mentioned, uses_of}
use Rattle.job_files.specs.Weight.{weight_of}
use Rattle.job_files.specs.declared.load_error.LoadError.{LoadError}
use Rattle.job_files.specs.declared.load_error.LoadError.TheVariants as e
use Rattle.job_files.specs.declared.uses.Use.{Use}
use Rattle.job_files.specs.declared.uses.Use.TheVariants as by

-- why loading stops: a refusal, or a file that is not there
pub data Stop : Type 0 where
  Refused : (refusal : Refusal) → Stop
  Missing : (name : List ℕ) → Stop

-- rule F2 is that of arrays with listed diagonals
abbrev pub astray_rule : Option (List ℤ) → Matrix → Option Rule
astray_rule None m = None
astray_rule (Some offsets) m = diagonals_rule offsets m

-- the first rule that a file's matrix breaks in a use: for an order of rows F1 and F3, it is one column that lists each row once;
-- for an array F1, its rows and columns are the array's, and F2; for a place F6, F4 and F5, it lists one rank for each index
abbrev pub broken_rule : Matrix → Use → Option Rule
broken_rule m (by.Order file rows) = order_rule rows m
broken_rule m (by.Place file extent ranks) = listed_rule extent ranks m
broken_rule m (by.Array file rows cols diagonals) = first_of (sizes_rule rows cols m) (astray_rule diagonals m)

-- a use of another file asks nothing
abbrev pub broken_in : List ℕ → Matrix → Use → Option Rule
broken_in name m u = if is_of name u then broken_rule m u else None

-- the first rule that a file's matrix breaks, over the uses of the file in their order
abbrev pub first_broken : List ℕ → Matrix → List Use → Option Rule
first_broken name m [] = None
first_broken name m (u ∷ uses) = first_of (broken_in name m u) (first_broken name m uses)

-- rules of uses are told of the file as a whole, which is line 0
abbrev pub judged : List ℕ → Matrix → Option Rule → Result Matrix Stop
judged name m None = Ok m
judged name m (Some rule) = Err (Refused (File name 0 rule))

-- a file has a matrix, or it is refused at its first broken rule
abbrev pub has : List Use → List ℕ → Result Matrix Fault → Result Matrix Stop
has uses name (Ok m) = judged name m (first_broken name m uses)
has uses name (Err fault) = Err (Refused (File name fault.0 fault.1))

-- a file is there, or it is not
abbrev pub found : List Use → List ℕ → Option (List ℕ) → Result Matrix Stop
found uses name None = Err (Missing name)
found uses name (Some bytes) = has uses name (mm bytes)

-- the matrix with which a file serves all of its uses, or why it does not
abbrev pub served : Files → List Use → List ℕ → Result Matrix Stop
served files uses name = found uses name (bytes_of files name)

-- how much a file adds to the weight: the entries of its matrix, once for each of its uses
abbrev pub added : List Use → List ℕ → Matrix → ℕ
added uses name m = count_by (is_of name) uses * length m.entries

-- rule F7: the weight with a file is within the limit
abbrev pub within_limit : List ℕ → ℕ → Result ℕ Stop
within_limit name weight = if nat_lt MOST_WEIGHT weight then Err (Refused (File name 0 F7)) else Ok weight

-- the weight with one more file, or why loading stops at it
abbrev pub weight_with : Files → List Use → ℕ → List ℕ → Result ℕ Stop
weight_with files uses weight name = and_then (served files uses name) (λ m. within_limit name (weight + added uses name m))

-- the weight after these files, or the first reason to stop
abbrev pub weight_after : Files → List Use → ℕ → List (List ℕ) → Result ℕ Stop
weight_after files uses weight [] = Ok weight
weight_after files uses weight (name ∷ names) = and_then (weight_with files uses weight name) (λ sum. weight_after files uses sum names)

-- why loading stops, where it does
abbrev pub stop_of : {X : Type 0} → Result X Stop → Option Stop
stop_of (Ok x) = None
stop_of (Err stop) = Some stop

-- the first reason to stop at these files, from a weight on
abbrev pub stops : Files → List Use → ℕ → List (List ℕ) → Option Stop
stops files uses weight names = stop_of (weight_after files uses weight names)

-- and at the files of all uses, by first mention, from the weight of the arrays without files on
abbrev pub stop_of_uses : Files → ℕ → List Use → Option Stop
stop_of_uses files weight uses = stops files uses weight (mentioned uses)

-- the order of a job's F rules on so many ranks: F7 without files, of the job file, and then the files
abbrev pub stop_of_files : Files → List ℕ → ℕ → Checked → Option Stop
stop_of_files files name ranks job =
    if nat_lt MOST_WEIGHT (weight_of job ranks) then Some (Refused (File name 0 F7))
    else stop_of_uses files (weight_of job ranks) (uses_of ranks job)

-- a file of this name is reached: it is that of a use, and no file that is mentioned before stops the loading
pub record ReachesUse (files : Files) (weight : ℕ) (uses : List Use) (name : List ℕ) : Type 0 where
  pub before : List (List ℕ)
  pub later : List (List ℕ)
  pub are : mentioned uses ≡ before ++ name ∷ later
  pub fine : stops files uses weight before ≡ None

-- a file of this name is reached by the order of a job's files
pub record Reaches (files : Files) (ranks : ℕ) (job : Checked) (name : List ℕ) : Type 0 where
  pub light : weight_of job ranks ≤ MOST_WEIGHT
  pub reached : ReachesUse files (weight_of job ranks) (uses_of ranks job) name

-- what a use asks of a matrix, beside that it is one: that it lists each row once, that it has an array's sizes, or that it lists
-- one rank for each index
abbrev pub Suits : Use → Matrix → Type 0
Suits (by.Order file rows) m = order_rule rows m ≡ None
Suits (by.Place file extent ranks) m = listed_rule extent ranks m ≡ None
Suits (by.Array file rows cols diagonals) m = (m.rows ≡ rows) × (m.cols ≡ cols)

-- a matrix within the limit on weights that breaks no rule in a use
pub record IsForUse (u : Use) (m : Matrix) : Type 0 where
  pub matrix : IsMatrix m
  pub fits : broken_rule m u ≡ None
  pub light : length m.entries ≤ MOST_WEIGHT

-- the entries of a matrix keep the limit beside so much weight
abbrev pub HasRoom : ℕ → Matrix → Type 0
HasRoom weight m = weight + length m.entries ≤ MOST_WEIGHT

-- the matrix of an array of a job, without a value off the diagonals that its format lists
pub record IsArrayIn (formats : List FormatDecl) (array : ArrayDecl) (m : Matrix) : Type 0 where
  pub is : IsArray array m
  pub straight : astray_rule (diagonals_of formats array) m ≡ None

-- the matrix of the file of a use, as the use asks it
pub record IsOfUse (files : Files) (u : Use) (m : Matrix) : Type 0 where
  pub bytes : List ℕ
  pub there : bytes_of files (file_of u) ≡ Some bytes
  pub read : mm bytes ≡ Ok m
  pub suits : Suits u m

-- the answer for these uses: where nothing stops it the matrix of each use, else the refusal, or a fault at a file that is
-- reached; want of memory is free
abbrev pub LoadsUses : Files → ℕ → List Use → Result (List Matrix) LoadError → Type 0
LoadsUses files weight uses (Ok ms) = (stop_of_uses files weight uses ≡ None) × AllZip (IsOfUse files) uses ms
LoadsUses files weight uses (Err (e.Refused refusal)) = stop_of_uses files weight uses ≡ Some (Refused refusal)
LoadsUses files weight uses (Err (e.ReadFault file)) = ReachesUse files weight uses file
LoadsUses files weight uses (Err e.NoMemory) = ⊤

-- the answer for a job: where nothing stops it the matrices of all arrays, else the first refusal, or a fault at a file that is
-- reached; want of memory is free
abbrev pub Loads : Files → List ℕ → ℕ → Checked → Result (List Matrix) LoadError → Type 0
Loads files name ranks job (Ok ms) = (stop_of_files files name ranks job ≡ None) × (ms ≡ matrices_from (entries_in files) job.arrays)
Loads files name ranks job (Err (e.Refused refusal)) = stop_of_files files name ranks job ≡ Some (Refused refusal)
Loads files name ranks job (Err (e.ReadFault file)) = Reaches files ranks job file
Loads files name ranks job (Err e.NoMemory) = ⊤
