-- The orders of the rows of arrays whose formats name a file for them.
use Rattle.std.specs.Prelude.{◌≡◌, ℕ, ◌==◌, ◌&&◌, Bool, true, false, List, [], Option, Some, None, Result, Ok, Err, ⊤}
use Rattle.std.specs.List.{list_any, range_with_len}
use Rattle.std.specs.List.Sorted.{IsPermutation}
use Rattle.std.specs.Str.{bytes_eq}
use Rattle.bern_base.specs.declared.job.ArrayDecl.{ArrayDecl}
use Rattle.bern_base.specs.declared.job.FormatDecl.{FormatDecl}
use Rattle.bern_base.specs.declared.matrix.Matrix.{Matrix}
use Rattle.job_files.specs.Uses.{order_of}
use Rattle.job_files.specs.declared.arrays.ArrayFiles.{ArrayFiles}
use Rattle.job_files.specs.declared.load_error.LoadError.{LoadError}
use Rattle.job_files.specs.declared.uses.Use.{Use}
use Rattle.job_files.specs.declared.uses.Use.TheVariants as by

-- the order of so many rows is read from this file in this use
abbrev pub is_order_of : List ℕ → ℕ → Use → Bool
is_order_of name rows (by.Order file count) = bytes_eq file name && count == rows
is_order_of name rows (by.Array file count cols diagonals) = false
is_order_of name rows (by.Place file extent ranks) = false

-- where a file is named for an order of so many rows, it is used for it
abbrev pub IsOrderUsed : List Use → ℕ → Option (List ℕ) → Type 0
IsOrderUsed uses rows None = ⊤
IsOrderUsed uses rows (Some file) = list_any (is_order_of file rows) uses ≡ true

abbrev pub HasOrderUse : List FormatDecl → List Use → ArrayDecl → Type 0
HasOrderUse formats uses array = IsOrderUsed uses array.rows (order_of formats array)

-- each of so many rows once, where a file is named for their order, and none else
abbrev pub ListsRows : Option (List ℕ) → ℕ → List ℕ → Type 0
ListsRows None rows order = order ≡ []
ListsRows (Some file) rows order = IsPermutation (range_with_len 0 rows) order

abbrev pub IsRowOrder : List FormatDecl → ArrayDecl → List ℕ → Type 0
IsRowOrder formats array order = ListsRows (order_of formats array) array.rows order

-- the matrices of what is loaded
abbrev pub matrices_in : Result ArrayFiles LoadError → Result (List Matrix) LoadError
matrices_in (Ok files) = Ok files.matrices
matrices_in (Err fault) = Err fault
