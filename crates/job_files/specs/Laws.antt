-- Laws on the files that are reached, on the rules that are tried, and on the weight of what is loaded.
use Rattle.std.specs.Prelude.{◌≡◌, ℕ, ◌+◌, ◌≤◌, List, Contains, length, slice_get, Some, None, Ok}
use Rattle.std.specs.List.{All, sum_by}
use Rattle.bern_base.specs.declared.job.ArrayDecl.{ArrayDecl}
use Rattle.bern_base.specs.declared.job.Checked.{Checked}
use Rattle.bern_base.specs.declared.job.FormatDecl.{FormatDecl}
use Rattle.bern_base.specs.declared.limits.TheConstants.{MOST_WEIGHT}
use Rattle.bern_base.specs.declared.matrix.Matrix.{Matrix}
use Rattle.bern_ports.specs.Files.{Files, bytes_of}
use Rattle.format_model.specs.Checks.{shape_rule}
use Rattle.job_files.specs.FileOrder.{Loads, Missing, Reaches, broken_rule, stop_of_files}
use Rattle.job_files.specs.Uses.{diagonals_of, file_use, mentioned, uses_of}
use Rattle.job_files.specs.Weight.{weight_of}

-- what stops for want of a file reaches that file, and it is not there
abbrev pub StopsAtMissing : Type 0
StopsAtMissing =
    (files : Files) (name : List ℕ) (ranks : ℕ) (job : Checked) (file : List ℕ) → stop_of_files files name ranks job ≡ Some (Missing file) →
    Reaches files ranks job file × (bytes_of files file ≡ None)

-- what does not stop reaches every file that is mentioned
abbrev pub ReachesAll : Type 0
ReachesAll =
    (files : Files) (name : List ℕ) (ranks : ℕ) (job : Checked) (file : List ℕ) → stop_of_files files name ranks job ≡ None →
    Contains (mentioned (uses_of ranks job)) file → Reaches files ranks job file

-- the entries of the matrices that are loaded keep the limit, with what the arrays weigh without files
abbrev pub KeepsLimit : Type 0
KeepsLimit =
    (files : Files) (name : List ℕ) (ranks : ℕ) (job : Checked) (ms : List Matrix) → Loads files name ranks job (Ok ms) →
    weight_of job ranks + sum_by (λ m. length m.entries) ms ≤ MOST_WEIGHT

-- the file of an array is tried by the rule of its shape, the one that `check_shape` tells
abbrev pub TriesArraysByTheirShape : Type 0
TriesArraysByTheirShape =
    (formats : List FormatDecl) (array : ArrayDecl) (format : FormatDecl) (m : Matrix) → slice_get formats array.format ≡ Some format →
    All (λ u. broken_rule m u ≡ shape_rule array format m) (file_use array (diagonals_of formats array) array.file)
