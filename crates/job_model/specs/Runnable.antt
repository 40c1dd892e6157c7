-- Jobs that can be run: each nest stays inside the arrays that it names.
use Rattle.std.specs.Prelude.{◌≡◌, ℕ, zero, suc, ◌≤◌, List, Bool, true, false, Option, Some, None, ℤ, pos, ◌≤ℤ◌, ◌<ℤ◌, length, slice_get}
use Rattle.std.specs.List.{All}
use Rattle.bern_base.specs.Affine.{AffineForm, IsWithin, IsInBox, value_at}
use Rattle.bern_base.specs.Shapes.{is_all_dense}
use Rattle.bern_base.specs.declared.job.ArrayDecl.{ArrayDecl}
use Rattle.bern_base.specs.declared.job.Checked.{Checked}
use Rattle.bern_base.specs.declared.job.Expr.{Expr, out-Expr}
use Rattle.bern_base.specs.declared.job.Factor.{Factor}
use Rattle.bern_base.specs.declared.job.Factor.TheVariants as factor
use Rattle.bern_base.specs.declared.job.FormatDecl.{FormatDecl}
use Rattle.bern_base.specs.declared.job.Nest.{Nest}
use Rattle.bern_base.specs.declared.job.Product.{Product}
use Rattle.bern_base.specs.declared.job.Ref.{Ref}
use Rattle.bern_base.specs.declared.job.Span.{Span}
use Rattle.bern_base.specs.declared.limits.TheConstants.{EXPRESSION_LEVELS, MOST_VARIABLES}
use Rattle.job_model.specs.Points.{spans_of}

-- an array is kept whole where each level of its format is dense
abbrev pub is_dense_format : Option FormatDecl → Bool
is_dense_format None = false
is_dense_format (Some decl) = is_all_dense decl.shape

abbrev pub is_dense : List FormatDecl → ArrayDecl → Bool
is_dense formats array = is_dense_format (slice_get formats array.format)

-- a form is an index of an axis of this length at each point of the box, guards not asked
abbrev pub IsIndex : List (ℤ × ℤ) → ℕ → AffineForm → Type 0
IsIndex spans size form = (point : List ℤ) → IsInBox spans point → (pos 0 ≤ℤ value_at form point) × (value_at form point <ℤ pos size)

-- the reference names this array and stays inside it
pub record IsElementOf (arrays : List ArrayDecl) (spans : List (ℤ × ℤ)) (ref : Ref) (array : ArrayDecl) : Type 0 where
  pub named : slice_get arrays ref.array ≡ Some array
  pub row : IsIndex spans array.rows ref.row
  pub col : IsIndex spans array.cols ref.col

abbrev pub IsElement : List ArrayDecl → List (ℤ × ℤ) → Ref → Type 0
IsElement arrays spans ref = (array : ArrayDecl) × IsElementOf arrays spans ref array

-- `IsRead` is what each reference has to be, and `Inner` what stands in parentheses
module _ (IsRead : Ref → Type 0) (Inner : Expr → Type 0) where
  abbrev pub IsFactor : Factor → Type 0
  IsFactor (factor.Num n) = Unit {0}
  IsFactor (factor.Read ref) = IsRead ref
  IsFactor (factor.Group e) = Inner e

  abbrev pub IsProduct : Product → Type 0
  IsProduct product = All IsFactor product.factors

-- an expression of at most so many levels, each of whose references is as it has to be
unfoldable pub IsExpr : (Ref → Type 0) → ℕ → Expr → Type 0
IsExpr IsRead zero e = ⊥
IsExpr IsRead (suc n) e = All (IsProduct IsRead (IsExpr IsRead n)) (out-Expr e).sums

-- both bounds are values of a loop variable
abbrev pub IsNear : Span → Type 0
IsNear span = IsWithin 4194303 span.lo × IsWithin 4194303 span.hi

-- the target is an element of an array that is kept whole
pub record IsTarget (job : Checked) (spans : List (ℤ × ℤ)) (ref : Ref) : Type 0 where
  pub array : ArrayDecl
  pub element : IsElementOf job.arrays spans ref array
  pub whole : is_dense job.formats array ≡ true

pub record IsRunnableNest (job : Checked) (nest : Nest) : Type 0 where
  pub few : length nest.vars ≤ MOST_VARIABLES
  pub near : All IsNear nest.vars
  pub target : IsTarget job (spans_of nest.vars) nest.target
  pub body : IsExpr (IsElement job.arrays (spans_of nest.vars)) EXPRESSION_LEVELS nest.body

abbrev pub IsRunnable : Checked → Type 0
IsRunnable job = All (IsRunnableNest job) job.nests
