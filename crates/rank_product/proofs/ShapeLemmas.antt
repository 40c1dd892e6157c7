-- What a job of one product tells of its arrays, its place and its nest.
use Rattle.std.proofs.Common.{◌≡◌, ◌≢◌, ℕ, ◌<◌, ◌==◌, Bool, true, false, List, Some, None, length, get_or, slice_get, refl, sym, ap, ◌∙◌, inl, inr, arith}
use Rattle.std.specs.Prelude.{◌&&◌, Option}
use Rattle.std.specs.Option.{option_map}
use Rattle.std.specs.List.{All}
use Rattle.std.proofs.lemmas.Bool.{eqb-true, false≢true, cases_lt}
use Rattle.std.proofs.lemmas.List.{length-map}
use Rattle.std.proofs.lemmas.Option.{slice_get-map, slice_get-get_or, slice_get_past}
use Rattle.bern_base.specs.declared.job.ArrayDecl.{ArrayDecl}
use Rattle.bern_base.specs.declared.job.Checked.{Checked}
use Rattle.bern_base.specs.declared.job.Expr.{out-Expr}
use Rattle.bern_base.specs.declared.job.ExtentDecl.{ExtentDecl}
use Rattle.bern_base.specs.declared.job.FormatDecl.{FormatDecl}
use Rattle.bern_base.specs.declared.job.Nest.{Nest}
use Rattle.bern_base.specs.declared.job.PlaceDecl.{PlaceDecl}
use Rattle.bern_base.specs.declared.job.PlaceKind.{PlaceKind}
use Rattle.bern_base.specs.declared.job.PlaceKind.TheVariants.{Block, Cyclic, Listed}
use Rattle.bern_base.specs.declared.job.Product.{Product}
use Rattle.bern_base.specs.declared.job.Ref.{Ref}
use Rattle.bern_base.specs.Shapes.{is_all_dense}
use Rattle.bern_base.specs.declared.shape.Shape.{Shape}
use Rattle.bern_base.specs.declared.shape.Shape.TheVariants as shape
use Rattle.bern_base.specs.declared.matrix.Matrix.{Matrix}
use Rattle.job_model.specs.Runnable.{is_dense_format}
use Rattle.rank_node.specs.Jobs.{array_of_some, array_read, is_whole, is_whole_array}
use Rattle.rank_node.proofs.ListLemmas.{some_same}
use Rattle.rank_product.specs.declared.shape.ProductShape.{ProductShape}
use Rattle.rank_product.specs.Shapes.{IsProduct, IsNestOf, IsTerm, IsOver, cols_over, is_dense_level, format_is, array_is, is_vector, is_block, extent_is, place_is}
use Rattle.rank_product.specs.Named.{shape_at, shape_of_nest, shape_of_term}
use Rattle.rank_product.specs.Runs.{AreOfJob, sizes_of, declared_sizes}
use Rattle.rank_product.proofs.ListLemmas.{ComesFrom, map_at, all_at, one_of}

pub and_first : (a b : Bool) → (a && b) ≡ true → a ≡ true
and_first true b both = refl
and_first false b both = absurd (false≢true both)

pub and_second : (a b : Bool) → (a && b) ≡ true → b ≡ true
and_second true b both = both
and_second false b both = absurd (false≢true both)

-- an array of so many extents that meets a test of its shape
pub record HasArray (test : Shape → Bool) (dims : ℕ) (formats : List FormatDecl) (found : Option ArrayDecl) : Type 0 where
  pub array : ArrayDecl
  pub there : found ≡ Some array
  pub dims_are : array.dims ≡ dims
  pub format : format_is test (slice_get formats array.format) ≡ true

pub has_array : (test : Shape → Bool) (dims : ℕ) (formats : List FormatDecl) (found : Option ArrayDecl) → array_is test dims formats found ≡ true → HasArray test dims formats found
has_array test dims formats None is = absurd (false≢true is)
has_array test dims formats (Some array) is = record {
  array = array;
  there = refl;
  dims_are = eqb-true array.dims dims (and_first (array.dims == dims) (format_is test (slice_get formats array.format)) is);
  format = and_second (array.dims == dims) (format_is test (slice_get formats array.format)) is;
}

dense_is_whole : (s : Shape) → is_dense_level s ≡ true → is_all_dense s ≡ true
dense_is_whole shape.DenseOne is = refl
dense_is_whole shape.PackedOne is = absurd (false≢true is)
dense_is_whole shape.ListOne is = absurd (false≢true is)
dense_is_whole (shape.DenseDense axis) is = absurd (false≢true is)
dense_is_whole (shape.DensePacked axis) is = absurd (false≢true is)
dense_is_whole (shape.PackedPacked axis) is = absurd (false≢true is)
dense_is_whole shape.ListTwo is = absurd (false≢true is)
dense_is_whole shape.Jagged is = absurd (false≢true is)
dense_is_whole (shape.Diagonal offsets) is = absurd (false≢true is)
dense_is_whole (shape.Permute file) is = absurd (false≢true is)

format_whole : (found : Option FormatDecl) → format_is is_dense_level found ≡ true → is_dense_format found ≡ true
format_whole None is = absurd (false≢true is)
format_whole (Some format) is = dense_is_whole format.shape is

-- a vector is stored whole
pub vector_whole : (job : Checked) (number : ℕ) → is_vector job number ≡ true → is_whole job number ≡ true
vector_whole job number is =
    let has = has_array is_dense_level 1 job.formats (slice_get job.arrays number) is in
    ap (is_whole_array job.formats) has.there ∙ format_whole (slice_get job.formats has.array.format) has.format

-- an array that is stored whole is there
pub whole_within : (formats : List FormatDecl) (arrays : List ArrayDecl) (k : ℕ) → is_whole_array formats (slice_get arrays k) ≡ true → k < length arrays
whole_within formats arrays k whole = elim (cases_lt k (length arrays)) [
  | inl below ↦ below
  | inr past ↦ absurd (false≢true (sym (ap (is_whole_array formats) (slice_get_past arrays k past)) ∙ whole))
]

-- a place that deals an extent of this size in blocks
pub record HasPlace (n : ℕ) (extents : List ExtentDecl) (found : Option PlaceDecl) : Type 0 where
  pub place : PlaceDecl
  pub there : found ≡ Some place
  pub kind : place.kind ≡ Block
  pub extent : ExtentDecl
  pub extent_there : slice_get extents place.extent ≡ Some extent
  pub size : extent.size ≡ n

kind_is : (kind : PlaceKind) → is_block kind ≡ true → kind ≡ Block
kind_is Block is = refl
kind_is (Cyclic block) is = absurd (false≢true is)
kind_is (Listed file) is = absurd (false≢true is)

record HasExtent (n : ℕ) (found : Option ExtentDecl) : Type 0 where
  extent : ExtentDecl
  there : found ≡ Some extent
  size : extent.size ≡ n

has_extent : (n : ℕ) (found : Option ExtentDecl) → extent_is n found ≡ true → HasExtent n found
has_extent n None is = absurd (false≢true is)
has_extent n (Some extent) is = record { extent = extent; there = refl; size = eqb-true extent.size n is }

pub has_place : (n : ℕ) (extents : List ExtentDecl) (found : Option PlaceDecl) → place_is n extents found ≡ true → HasPlace n extents found
has_place n extents None is = absurd (false≢true is)
has_place n extents (Some place) is =
    let extent = has_extent n (slice_get extents place.extent) (and_second (is_block place.kind) (extent_is n (slice_get extents place.extent)) is) in record {
      place = place;
      there = refl;
      kind = kind_is place.kind (and_first (is_block place.kind) (extent_is n (slice_get extents place.extent)) is);
      extent = extent.extent;
      extent_there = extent.there;
      size = extent.size;
    }

-- the array of a matrix, and the matrix of an array, of the same sizes
array_of : (job : Checked) (ms : List Matrix) → AreOfJob job ms → (k : ℕ) (m : Matrix) → slice_get ms k ≡ Some m → ComesFrom declared_sizes job.arrays k (sizes_of m)
array_of job ms are k m at =
    map_at declared_sizes job.arrays k (sizes_of m) (ap (λ (xs : List (ℕ × ℕ)). slice_get xs k) (sym are.sizes) ∙ slice_get-map sizes_of ms k ∙ ap (option_map sizes_of) at)

matrix_of : (job : Checked) (ms : List Matrix) → AreOfJob job ms → (k : ℕ) (array : ArrayDecl) → slice_get job.arrays k ≡ Some array → ComesFrom sizes_of ms k (declared_sizes array)
matrix_of job ms are k array at =
    map_at sizes_of ms k (declared_sizes array) (ap (λ (xs : List (ℕ × ℕ)). slice_get xs k) are.sizes ∙ slice_get-map declared_sizes job.arrays k ∙ ap (option_map declared_sizes) at)

pub rows_are : (job : Checked) (p : ProductShape) (ms : List Matrix) → IsProduct job p → AreOfJob job ms → All (λ (m : Matrix). m.rows ≡ p.size) ms
rows_are job p ms is are k d within =
    let from = array_of job ms are k (get_or ms k d) (slice_get-get_or ms k d within) in
    ap (λ (s : ℕ × ℕ). s.0) from.is ∙ (all_at (IsOver p) job.arrays k from.of is.arrays from.there).rows

pub counts_are : (job : Checked) (ms : List Matrix) → AreOfJob job ms → length ms ≡ length job.arrays
counts_are job ms are = sym (length-map ms sizes_of) ∙ ap length are.sizes ∙ length-map job.arrays declared_sizes

-- the matrix of an array of so many extents
pub record IsMatrixAt (ms : List Matrix) (n dims k : ℕ) : Type 0 where
  pub of : Matrix
  pub there : slice_get ms k ≡ Some of
  pub rows : of.rows ≡ n
  pub cols : of.cols ≡ cols_over n dims

pub matrix_at : (test : Shape → Bool) (dims : ℕ) (job : Checked) (p : ProductShape) (ms : List Matrix) (k : ℕ) → IsProduct job p → AreOfJob job ms → array_is test dims job.formats (slice_get job.arrays k) ≡ true → IsMatrixAt ms p.size dims k
matrix_at test dims job p ms k is are found =
    let has = has_array test dims job.formats (slice_get job.arrays k) found in
    let from = matrix_of job ms are k has.array has.there in
    let over = all_at (IsOver p) job.arrays k has.array is.arrays has.there in record {
      of = from.of;
      there = from.there;
      rows = sym (ap (λ (s : ℕ × ℕ). s.0) from.is) ∙ over.rows;
      cols = sym (ap (λ (s : ℕ × ℕ). s.1) from.is) ∙ over.cols ∙ ap (cols_over p.size) has.dims_are;
    }

-- arrays of one extent and of two are apart
pub dims_apart : (test other : Shape → Bool) (formats : List FormatDecl) (arrays : List ArrayDecl) (j k : ℕ) → array_is test 2 formats (slice_get arrays j) ≡ true → array_is other 1 formats (slice_get arrays k) ≡ true → j ≢ k
dims_apart test other formats arrays j k first second same =
    let two = has_array test 2 formats (slice_get arrays j) first in
    let one = has_array other 1 formats (slice_get arrays k) second in
    let array : two.array ≡ one.array = some_same (sym two.there ∙ ap (slice_get arrays) same ∙ one.there) in
    let dims : two.array.dims ≡ one.array.dims = ap (λ (a : ArrayDecl). a.dims) array in
    omega (arith, dims, two.dims_are, one.dims_are)

-- the product that a job does is the one that its nest names
pub shape_named : (job : Checked) (p : ProductShape) → IsProduct job p → shape_of_nest job (slice_get job.nests 0) ≡ Some p
shape_named job p is =
    let nests = one_of job.nests is.one in
    let nest = all_at (IsNestOf p) job.nests 0 nests.first is.nests (ap (λ (xs : List Nest). slice_get xs 0) nests.is) in
    let sums = one_of (out-Expr nests.first.body).sums nest.one in
    let term = all_at (IsTerm p) (out-Expr nests.first.body).sums 0 sums.first nest.terms (ap (λ (xs : List Product). slice_get xs 0) sums.is) in
    let has = has_array is_dense_level 1 job.formats (slice_get job.arrays p.target) is.target in
    let over = all_at (IsOver p) job.arrays p.target has.array is.arrays has.there in
    ap (λ (xs : List Nest). shape_of_nest job (slice_get xs 0)) nests.is
    ∙ ap (λ (xs : List Product). shape_of_term job nests.first.target.array (slice_get xs 0)) sums.is
    ∙ ap (λ (r : Ref). shape_of_term job r.array (Some sums.first)) nest.target
    ∙ ap (λ f. shape_at p.target (array_of_some f) (array_read sums.first.factors 1) (slice_get job.arrays p.target)) term.first
    ∙ ap (λ f. shape_at p.target (Some p.stored) (array_of_some f) (slice_get job.arrays p.target)) term.second
    ∙ ap (shape_at p.target (Some p.stored) (Some p.source)) has.there
    ∙ ap (λ n. Some (record p { size = n; place = has.array.place })) over.rows
    ∙ ap (λ n. Some (record p { place = n })) over.place
