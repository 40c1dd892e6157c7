-- What is served after some of the uses: their matrices, and the weight with their files.
use Rattle.std.specs.Prelude.{◌≡◌, ℕ, ◌+◌, ◌<◌, ◌≤◌, ◌⊎◌, Bool, true, false, List, [], ◌∷◌, length, take, position, Option, Some, None, is_some, Result, Ok, Err, slice_get, ⊤}
use Rattle.bern_base.specs.Matrix.{IsMatrix}
use Rattle.bern_base.specs.declared.limits.TheConstants.{MOST_WEIGHT}
use Rattle.bern_base.specs.declared.matrix.Matrix.{Matrix}
use Rattle.bern_base.specs.declared.refusal.Rule.{Rule}
use Rattle.bern_base.specs.declared.refusal.Rule.TheVariants.{F7}
use Rattle.bern_base.specs.declared.refusal.Refusal.TheVariants.{File}
use Rattle.bern_ports.specs.Files.{Files}
use Rattle.job_files.specs.Answers.{IsRefusalOf}
use Rattle.job_files.specs.FileOrder.{Refused, added, first_broken, served, weight_after, weight_with}
use Rattle.job_files.specs.Uses.{file_of, is_of, mentioned}
use Rattle.job_files.specs.declared.load_error.LoadError.{LoadError}
use Rattle.job_files.specs.declared.load_error.LoadError.TheVariants as e
use Rattle.job_files.specs.declared.serving.Loaded.{Loaded}
use Rattle.job_files.specs.declared.uses.Use.{Use}

-- P holds of each matrix and of the use that stands beside it; the last uses may have none yet
abbrev pub Beside : (Use → Matrix → Type 0) → List Use → List Matrix → Type 0
Beside P uses [] = ⊤
Beside P [] (m ∷ ms) = ⊥
Beside P (u ∷ uses) (m ∷ ms) = P u m × Beside P uses ms

-- a matrix that breaks no rule in the uses of this file, and keeps the limit with its entries for each of them beside so much weight
pub record IsFit (weight : ℕ) (uses : List Use) (name : List ℕ) (m : Matrix) : Type 0 where
  pub matrix : IsMatrix m
  pub fits : first_broken name m uses ≡ None
  pub light : weight + added uses name m ≤ MOST_WEIGHT

abbrev pub IsFitFor : ℕ → List Use → Use → Matrix → Type 0
IsFitFor weight uses u m = IsFit weight uses (file_of u) m

-- the matrix of a use, over told files
abbrev pub IsServed : Files → List Use → Use → Matrix → Type 0
IsServed files uses u m = served files uses (file_of u) ≡ Ok m

-- the matrix, where it breaks no rule in the uses of the file, or the first rule that it breaks; want of memory is free
abbrev pub IsJudged : List Use → List ℕ → Matrix → Result Matrix LoadError → Type 0
IsJudged uses name matrix (Ok m) = (m ≡ matrix) × (first_broken name m uses ≡ None)
IsJudged uses name matrix (Err (e.Refused refusal)) = (rule : Rule) × (first_broken name matrix uses ≡ Some rule) × (refusal ≡ File name 0 rule)
IsJudged uses name matrix (Err (e.ReadFault file)) = ⊥
IsJudged uses name matrix (Err e.NoMemory) = ⊤

-- the matrix, and the weight with its file; or rule F7
abbrev pub IsWeighed : List Use → ℕ → List ℕ → Matrix → Result Loaded LoadError → Type 0
IsWeighed uses weight name matrix (Ok l) = (l.matrix ≡ matrix) × (l.weight ≡ weight + added uses name matrix) × (l.weight ≤ MOST_WEIGHT)
IsWeighed uses weight name matrix (Err fault) = IsRefusalOf (File name 0 F7) fault × (MOST_WEIGHT < weight + added uses name matrix)

-- the answer for a file, once its matrix is read: the rules of its uses, and then rule F7
abbrev pub IsTaken : List Use → ℕ → List ℕ → Matrix → Result Loaded LoadError → Type 0
IsTaken uses weight name matrix (Ok l) = IsJudged uses name matrix (Ok l.matrix) × IsWeighed uses weight name matrix (Ok l)
IsTaken uses weight name matrix (Err fault) =
    IsJudged uses name matrix (Err fault) ⊎ (first_broken name matrix uses ≡ None) × IsWeighed uses weight name matrix (Err fault)

-- the answer for a file that is mentioned for the first time: its matrix and the weight with it, its refusal, or a fault at it;
-- want of memory is free
abbrev pub Takes : Files → List Use → ℕ → List ℕ → Result Loaded LoadError → Type 0
Takes files uses weight name (Ok l) = (served files uses name ≡ Ok l.matrix) × (weight_with files uses weight name ≡ Ok l.weight)
Takes files uses weight name (Err (e.Refused refusal)) = weight_with files uses weight name ≡ Err (Refused refusal)
Takes files uses weight name (Err (e.ReadFault file)) = file ≡ name
Takes files uses weight name (Err e.NoMemory) = ⊤

-- the answer for a use; the file of one that was mentioned before adds no more to the weight
abbrev pub Serves : Files → List Use → ℕ → List ℕ → Bool → Result Loaded LoadError → Type 0
Serves files uses weight name false result = Takes files uses weight name result
Serves files uses weight name true (Ok l) = (served files uses name ≡ Ok l.matrix) × (l.weight ≡ weight)
Serves files uses weight name true (Err fault) = fault ≡ e.NoMemory

-- the matrix that stands beside the first use of a file
abbrev pub beside_first : List Matrix → Option ℕ → Option Matrix
beside_first ms None = None
beside_first ms (Some first) = slice_get ms first

-- whether there is a matrix beside the first use of this file
abbrev pub is_known : List Use → List Matrix → List ℕ → Bool
is_known uses ms name = is_some (beside_first ms (position (is_of name) uses))

-- what is served of the first uses: their matrices, and the weight after their files
pub record IsServedSoFar (files : Files) (weight : ℕ) (uses : List Use) (ms : List Matrix) (now : ℕ) : Type 0 where
  pub served : Beside (IsServed files uses) uses ms
  pub weight_is : weight_after files uses weight (mentioned (take (length ms) uses)) ≡ Ok now
