-- What an accepted job keeps: its numbers name items of its own lists, its sizes and counts are within their limits, and its
-- nests stay inside their arrays, write dense arrays alone, and read what lies where the target lies.
use Rattle.std.specs.Prelude.{◌≡◌, ◌≢◌, ◌⊎◌, ℕ, ◌<◌, ◌≤◌, Bool, true, false, if◌then◌else◌, List, Some, ℤ, length, slice_get, unsigned_abs}
use Rattle.std.specs.List.{All, AllPairs}
use Rattle.bern_base.specs.Affine.{AffineForm, IsInBox, value_at}
use Rattle.bern_base.specs.Shapes.{dims_of, is_by_row}
use Rattle.bern_base.specs.declared.axes.Axis.{Axis}
use Rattle.bern_base.specs.declared.axes.Axis.TheVariants as axis
use Rattle.bern_base.specs.declared.job.ArrayDecl.{ArrayDecl}
use Rattle.bern_base.specs.declared.job.Checked.{Checked}
use Rattle.bern_base.specs.declared.job.Nest.{Nest}
use Rattle.bern_base.specs.declared.job.PlaceDecl.{PlaceDecl}
use Rattle.bern_base.specs.declared.job.PlaceKind.{PlaceKind}
use Rattle.bern_base.specs.declared.job.PlaceKind.TheVariants as dealt
use Rattle.bern_base.specs.declared.job.Ref.{Ref}
use Rattle.bern_base.specs.declared.shape.Shape.{Shape}
use Rattle.bern_base.specs.declared.shape.Shape.TheVariants as shape
use Rattle.bern_base.specs.declared.limits.TheConstants.{EXPRESSION_LEVELS, MOST_ARRAYS, MOST_COEFFICIENT, MOST_CONSTANT, MOST_EXTENTS, MOST_FORMATS, MOST_GUARDS, MOST_NESTS, MOST_OFFSET, MOST_OFFSETS, MOST_PLACES, MOST_REFERENCES, MOST_SIDE, MOST_TERMS, MOST_VARIABLES}
use Rattle.job_model.specs.Points.{spans_of}
use Rattle.job_model.specs.References.{sizes_of}
use Rattle.job_model.specs.Runnable.{is_dense, IsElement, IsExpr, IsNear, IsTarget}

-- an item of this number is there, and has this
abbrev pub Has : {A : Type 0} → List A → ℕ → (A → Type 0) → Type 0
Has {A} items number P = (item : A) × (slice_get items number ≡ Some item) × P item

abbrev pub IsSize : ℕ → Type 0
IsSize n = (1 ≤ n) × (n ≤ MOST_SIDE)

abbrev pub HasBlock : PlaceKind → Type 0
HasBlock (dealt.Cyclic block) = IsSize block
HasBlock other = Unit {0}

-- a place deals an extent of the job
pub record IsPlaceOf (job : Checked) (place : PlaceDecl) : Type 0 where
  pub extent : place.extent < length job.extents
  pub block : HasBlock place.kind

abbrev pub HasOffsets : Shape → Type 0
HasOffsets (shape.Diagonal offsets) = (length offsets ≤ MOST_OFFSETS) × All (λ offset. unsigned_abs offset ≤ MOST_OFFSET) offsets
HasOffsets other = Unit {0}

abbrev pub is_col : Axis → Bool
is_col axis.Row = false
is_col axis.Col = true
is_col axis.Both = false

-- how many indices the axis has along which an array is split
abbrev pub split_size : ArrayDecl → ℕ
split_size array = if is_col array.axis then array.cols else array.rows

-- the subscript on that axis
abbrev pub split_form : ArrayDecl → Ref → AffineForm
split_form array ref = if is_col array.axis then ref.col else ref.row

-- an array has as many extents as its format, is split along an axis along which it can be split, and its place deals the
-- extent of that axis
pub record IsArrayOf (job : Checked) (array : ArrayDecl) : Type 0 where
  pub format : Has job.formats array.format (λ f. (array.dims ≡ dims_of f.shape) × (is_by_row f.shape ≡ true → is_col array.axis ≡ false))
  pub place : Has job.places array.place (λ p. Has job.extents p.extent (λ e. e.size ≡ split_size array))
  pub rows : IsSize array.rows
  pub cols : IsSize array.cols
  pub flat : array.dims ≡ 1 → (array.cols ≡ 1) × (is_col array.axis ≡ false)

-- an array of this number is there, and is kept whole
abbrev pub IsDenseAt : Checked → ℕ → Type 0
IsDenseAt job number = Has job.arrays number (λ array. is_dense job.formats array ≡ true)

-- a reference lies where the target lies: its array has the target's place, and its subscript on the split axis is the target's
pub record LiesAt (job : Checked) (target ref : Ref) : Type 0 where
  pub own : ArrayDecl
  pub other : ArrayDecl
  pub own_is : slice_get job.arrays ref.array ≡ Some own
  pub other_is : slice_get job.arrays target.array ≡ Some other
  pub place : own.place ≡ other.place
  pub same : split_form own ref ≡ split_form other target

-- different points of the box name different elements
abbrev pub IsOneToOne : List (ℤ × ℤ) → Ref → Type 0
IsOneToOne spans ref =
    (p q : List ℤ) → IsInBox spans p → IsInBox spans q → value_at ref.row p ≡ value_at ref.row q → value_at ref.col p ≡ value_at ref.col q → p ≡ q

-- the coefficients and the constant of a subscript are within their limits
pub record IsSubscript (form : AffineForm) : Type 0 where
  pub constant : unsigned_abs form.c0 ≤ MOST_CONSTANT
  pub coefficients : All (λ c. unsigned_abs c ≤ MOST_COEFFICIENT) form.coef

abbrev pub AreSubscripts : Ref → Type 0
AreSubscripts ref = IsSubscript ref.row × IsSubscript ref.col

-- where the target's array is read, it is read at the target alone, in a nest that is one-to-one
pub record ReadsOwn (nest : Nest) (ref : Ref) : Type 0 where
  pub row : ref.row ≡ nest.target.row
  pub col : ref.col ≡ nest.target.col
  pub one_to_one : IsOneToOne (spans_of nest.vars) nest.target

-- what a nest reads stays inside its array, and is of a dense array or lies where the target lies
pub record IsReadOf (job : Checked) (nest : Nest) (ref : Ref) : Type 0 where
  pub element : IsElement job.arrays (spans_of nest.vars) ref
  pub near : IsDenseAt job ref.array ⊎ LiesAt job nest.target ref
  pub own : ref.array ≡ nest.target.array → ReadsOwn nest ref
  pub subscripts : AreSubscripts ref

pub record IsNestOf (job : Checked) (nest : Nest) : Type 0 where
  pub few : length nest.vars ≤ MOST_VARIABLES
  pub near : All IsNear nest.vars
  pub guards : length nest.guards ≤ MOST_GUARDS
  pub target : IsTarget job (spans_of nest.vars) nest.target
  pub subscripts : AreSubscripts nest.target
  pub replaces : nest.replace ≡ true → IsOneToOne (spans_of nest.vars) nest.target
  pub body : IsExpr (IsReadOf job nest) EXPRESSION_LEVELS nest.body
  pub terms : length (sizes_of EXPRESSION_LEVELS nest.body) ≤ MOST_TERMS
  pub references : All (λ size. size ≤ MOST_REFERENCES) (sizes_of EXPRESSION_LEVELS nest.body)

-- the one record of an accepted job
pub record IsAccepted (job : Checked) : Type 0 where
  pub extent_count : length job.extents ≤ MOST_EXTENTS
  pub place_count : length job.places ≤ MOST_PLACES
  pub format_count : length job.formats ≤ MOST_FORMATS
  pub array_count : length job.arrays ≤ MOST_ARRAYS
  pub nest_count : length job.nests ≤ MOST_NESTS
  pub extents : All (λ e. IsSize e.size) job.extents
  pub places : All (IsPlaceOf job) job.places
  pub formats : All (λ f. HasOffsets f.shape) job.formats
  pub arrays : All (IsArrayOf job) job.arrays
  pub nests : All (IsNestOf job) job.nests
  pub turns : All (λ k. k < length job.nests) job.turns
  pub prints : All (IsDenseAt job) job.prints
  pub prints_once : AllPairs (λ a b. a ≢ b) job.prints
