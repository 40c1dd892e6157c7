-- Jobs of one product: T[v] += S[v,w] * D[w] over the whole extent of v and w.
use Rattle.std.specs.Prelude.{◌≡◌, ◌≢◌, ℕ, ◌≤◌, Bool, true, false, ◌&&◌, ◌==◌, if◌then◌else◌, List, [], ◌∷◌, Option, Some, None, length, slice_get, pos}
use Rattle.std.specs.List.{All}
use Rattle.bern_base.specs.declared.axes.Axis.TheVariants.{Row}
use Rattle.bern_base.specs.declared.job.ArrayDecl.{ArrayDecl}
use Rattle.bern_base.specs.declared.job.Checked.{Checked}
use Rattle.bern_base.specs.declared.job.Expr.{out-Expr}
use Rattle.bern_base.specs.declared.job.ExtentDecl.{ExtentDecl}
use Rattle.bern_base.specs.declared.job.Factor.TheVariants.{Read}
use Rattle.bern_base.specs.declared.job.FormatDecl.{FormatDecl}
use Rattle.bern_base.specs.declared.job.Nest.{Nest}
use Rattle.bern_base.specs.declared.job.PlaceDecl.{PlaceDecl}
use Rattle.bern_base.specs.declared.job.PlaceKind.{PlaceKind}
use Rattle.bern_base.specs.declared.job.PlaceKind.TheVariants as kind
use Rattle.bern_base.specs.declared.job.Product.{Product}
use Rattle.bern_base.specs.declared.job.Ref.{Ref}
use Rattle.bern_base.specs.declared.shape.Shape.{Shape}
use Rattle.bern_base.specs.declared.shape.Shape.TheVariants as shape
use Rattle.bern_base.specs.declared.job.Span.{Span}
use Rattle.bern_base.specs.declared.limits.TheConstants.{MOST_SIDE}
use Rattle.rank_node.specs.Jobs.{variable_v, variable_w, nothing}
use Rattle.rank_product.specs.declared.shape.ProductShape.{ProductShape}

-- from 0 to one below the size
abbrev pub IsWhole : ℕ → Span → Type 0
IsWhole n span = (span.lo ≡ pos 0) × (span.hi ≡ pos n)

-- the elements T[v], S[v,w] and D[w]
abbrev pub target_element : ProductShape → Ref
target_element p = record { array = p.target; row = variable_v; col = nothing }

abbrev pub stored_element : ProductShape → Ref
stored_element p = record { array = p.stored; row = variable_v; col = variable_w }

abbrev pub source_element : ProductShape → Ref
source_element p = record { array = p.source; row = variable_w; col = nothing }

-- the product S[v,w] * D[w], without a minus
pub record IsTerm (p : ProductShape) (product : Product) : Type 0 where
  pub plus : product.minus ≡ false
  pub two : length product.factors ≡ 2
  pub first : slice_get product.factors 0 ≡ Some (Read (stored_element p))
  pub second : slice_get product.factors 1 ≡ Some (Read (source_element p))

-- T[v] += S[v,w] * D[w] at each v and w of the extent, without guards
pub record IsNestOf (p : ProductShape) (nest : Nest) : Type 0 where
  pub two : length nest.vars ≡ 2
  pub whole : All (IsWhole p.size) nest.vars
  pub guards : nest.guards ≡ []
  pub target : nest.target ≡ target_element p
  pub grows : nest.replace ≡ false
  pub one : length (out-Expr nest.body).sums ≡ 1
  pub terms : All (IsTerm p) (out-Expr nest.body).sums

-- how many columns an array has whose extents are all of this size
abbrev pub cols_over : ℕ → ℕ → ℕ
cols_over n dims = if dims == 2 then n else 1

-- an array over the extent, which the place splits by row
pub record IsOver (p : ProductShape) (array : ArrayDecl) : Type 0 where
  pub rows : array.rows ≡ p.size
  pub cols : array.cols ≡ cols_over p.size array.dims
  pub axis : array.axis ≡ Row
  pub place : array.place ≡ p.place

-- an array of one level, which is dense
abbrev pub is_dense_level : Shape → Bool
is_dense_level shape.DenseOne = true
is_dense_level other = false

-- two levels of which one is not dense, other than by diagonals
abbrev pub is_sparse : Shape → Bool
is_sparse shape.DenseOne = false
is_sparse shape.PackedOne = false
is_sparse shape.ListOne = false
is_sparse (shape.DenseDense axis) = false
is_sparse (shape.DensePacked axis) = true
is_sparse (shape.PackedPacked axis) = true
is_sparse shape.ListTwo = true
is_sparse shape.Jagged = true
is_sparse (shape.Diagonal offsets) = false
is_sparse (shape.Permute file) = true

-- an array of so many extents, whose format has such a shape
abbrev pub format_is : (Shape → Bool) → Option FormatDecl → Bool
format_is test None = false
format_is test (Some format) = test format.shape

abbrev pub array_is : (Shape → Bool) → ℕ → List FormatDecl → Option ArrayDecl → Bool
array_is test dims formats None = false
array_is test dims formats (Some array) = array.dims == dims && format_is test (slice_get formats array.format)

abbrev pub is_vector : Checked → ℕ → Bool
is_vector job number = array_is is_dense_level 1 job.formats (slice_get job.arrays number)

abbrev pub is_sparse_matrix : Checked → ℕ → Bool
is_sparse_matrix job number = array_is is_sparse 2 job.formats (slice_get job.arrays number)

-- a place that deals an extent of this size in one block for each rank
abbrev pub is_block : PlaceKind → Bool
is_block kind.Block = true
is_block (kind.Cyclic block) = false
is_block (kind.Listed file) = false

abbrev pub extent_is : ℕ → Option ExtentDecl → Bool
extent_is n None = false
extent_is n (Some extent) = extent.size == n

abbrev pub place_is : ℕ → List ExtentDecl → Option PlaceDecl → Bool
place_is n extents None = false
place_is n extents (Some place) = is_block place.kind && extent_is n (slice_get extents place.extent)

abbrev pub is_block_place : Checked → ℕ → ℕ → Bool
is_block_place job n number = place_is n job.extents (slice_get job.places number)

-- the job has this one nest, and does it once; all its arrays are over one extent and one block place, split by row; T and D are two
-- vectors of one dense level, and S is sparse
pub record IsProduct (job : Checked) (p : ProductShape) : Type 0 where
  pub some : 1 ≤ p.size
  pub most : p.size ≤ MOST_SIDE
  pub one : length job.nests ≡ 1
  pub turns : job.turns ≡ 0 ∷ []
  pub nests : All (IsNestOf p) job.nests
  pub arrays : All (IsOver p) job.arrays
  pub place : is_block_place job p.size p.place ≡ true
  pub target : is_vector job p.target ≡ true
  pub source : is_vector job p.source ≡ true
  pub stored : is_sparse_matrix job p.stored ≡ true
  pub apart : p.target ≢ p.source
