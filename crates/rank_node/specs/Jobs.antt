-- A job of the one form so far, T[v] += S[v,w] * D[w] over the whole extent, and the parts that a rank has of its arrays.
use Rattle.std.specs.Prelude.{◌≡◌, ℕ, ◌<◌, Bool, true, false, List, [], ◌∷◌, Option, Some, None, length, map, slice_get, ℤ, pos}
use Rattle.std.specs.List.{All}
use Rattle.std.specs.Int.{div_ceil}
use Rattle.bern_base.specs.Affine.{AffineForm}
use Rattle.bern_base.specs.Matrix.{IsInside}
use Rattle.bern_base.specs.declared.job.ArrayDecl.{ArrayDecl}
use Rattle.bern_base.specs.declared.job.Checked.{Checked}
use Rattle.bern_base.specs.declared.job.ExtentDecl.{ExtentDecl}
use Rattle.bern_base.specs.declared.job.Expr.{out-Expr}
use Rattle.bern_base.specs.declared.job.Factor.{Factor}
use Rattle.bern_base.specs.declared.job.Factor.TheVariants.{Num, Read, Group}
use Rattle.bern_base.specs.declared.job.FormatDecl.{FormatDecl}
use Rattle.bern_base.specs.declared.job.Nest.{Nest}
use Rattle.bern_base.specs.declared.job.PlaceDecl.{PlaceDecl}
use Rattle.bern_base.specs.declared.job.PlaceKind.{PlaceKind}
use Rattle.bern_base.specs.declared.job.PlaceKind.TheVariants.{Block, Cyclic, Listed}
use Rattle.bern_base.specs.declared.job.Product.{roll-Product}
use Rattle.job_model.specs.Points.{bounds_of}
use Rattle.job_model.specs.Runnable.{is_dense}
use Rattle.bern_base.specs.Matrix.{matrix_values}
use Rattle.placement.specs.declared.part.Part.{Part}
use Rattle.placement.specs.Cyclic.{cyclic_triples}
use Rattle.rank_model.specs.Products.{Run, answer_part, part_values}

-- the array that a factor reads
abbrev pub array_of : Factor → Option ℕ
array_of (Num v) = None
array_of (Read r) = Some r.array
array_of (Group e) = None

abbrev pub array_of_some : Option Factor → Option ℕ
array_of_some None = None
array_of_some (Some factor) = array_of factor

abbrev pub array_read : List Factor → ℕ → Option ℕ
array_read factors at = array_of_some (slice_get factors at)

-- how many indices a place deals at a time, where it deals in blocks
abbrev pub block_of : PlaceKind → ℕ → ℕ → Option ℕ
block_of Block extent ranks = Some (div_ceil extent ranks)
block_of (Cyclic block) extent ranks = Some block
block_of (Listed file) extent ranks = None

-- an array is stored whole where each level of its format is dense
abbrev pub is_whole_array : List FormatDecl → Option ArrayDecl → Bool
is_whole_array formats None = false
is_whole_array formats (Some decl) = is_dense formats decl

abbrev pub is_whole : Checked → ℕ → Bool
is_whole job array = is_whole_array job.formats (slice_get job.arrays array)

-- the forms v and w over the two loop variables, and 0
abbrev pub variable_v : AffineForm
variable_v = record { c0 = pos 0; coef = pos 1 ∷ pos 0 ∷ pos 0 ∷ pos 0 ∷ [] }

abbrev pub variable_w : AffineForm
variable_w = record { c0 = pos 0; coef = pos 0 ∷ pos 1 ∷ pos 0 ∷ pos 0 ∷ [] }

abbrev pub nothing : AffineForm
nothing = record { c0 = pos 0; coef = pos 0 ∷ pos 0 ∷ pos 0 ∷ pos 0 ∷ [] }

-- the factors S[v,w] and D[w]
abbrev pub product_factors : Run → List Factor
product_factors run =
    Read (record { array = run.stored; row = variable_v; col = variable_w })
    ∷ Read (record { array = run.source; row = variable_w; col = nothing }) ∷ []

-- the values of a loop variable over the whole extent, from the first to one below the second
abbrev pub whole_extent : Run → ℤ × ℤ
whole_extent run = (pos 0, pos (length run.place))

-- T[v] += S[v,w] * D[w] at each v and w of the extent, without guards
pub record IsProductNest (run : Run) (nest : Nest) : Type 0 where
  pub box : map bounds_of nest.vars ≡ whole_extent run ∷ whole_extent run ∷ []
  pub guards : nest.guards ≡ []
  pub target : nest.target ≡ record { array = run.target; row = variable_v; col = nothing }
  pub grows : nest.replace ≡ false
  pub body : (out-Expr nest.body).sums ≡ roll-Product (record { minus = false; factors = product_factors run }) ∷ []

-- the job has this nest alone; its arrays are placed by the place of T, which deals in blocks
pub record IsJobOf (run : Run) (job : Checked) : Type 0 where
  pub nest : Nest
  pub nests : job.nests ≡ nest ∷ []
  pub product : IsProductNest run nest
  pub array : ArrayDecl
  pub array_is : slice_get job.arrays run.target ≡ Some array
  pub place : PlaceDecl
  pub place_is : slice_get job.places array.place ≡ Some place
  pub extent : ExtentDecl
  pub extent_is : slice_get job.extents place.extent ≡ Some extent
  pub size : extent.size ≡ length run.place
  pub block : ℕ
  pub some_block : 0 < block
  pub block_is : block_of place.kind extent.size run.ranks ≡ Some block
  pub dealt : run.place ≡ cyclic_triples extent.size run.ranks block
  pub whole : (number : ℕ) → run.dense number ≡ is_whole job number

-- the place of the run deals an extent in blocks
pub record IsDealing (run : Run) (extent block : ℕ) : Type 0 where
  pub some : 0 < block
  pub place : run.place ≡ cyclic_triples extent run.ranks block

-- the parts of the arrays are those of this rank in the first state
pub record ArePartsOf (run : Run) (rank : ℕ) (parts : List Part) : Type 0 where
  pub long : length parts ≡ length run.first
  pub inside : (array : ℕ) (part : Part) → slice_get parts array ≡ Some part → run.dense array ≡ true →
      All (IsInside part.matrix.rows part.matrix.cols) part.matrix.entries
  pub whole : (array : ℕ) (part : Part) → slice_get parts array ≡ Some part → run.dense array ≡ true →
      matrix_values part.matrix.rows part.matrix.cols part.matrix.entries ≡ part_values run run.first array rank
  pub stored : run.stored < length parts
  pub entries : (part : Part) → slice_get parts run.stored ≡ Some part → part.matrix.entries ≡ answer_part run rank
