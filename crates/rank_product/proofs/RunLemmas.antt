-- A product on ranks is a run of its job, and what the run leaves in T is what the job's nests leave there.
use Rattle.std.proofs.Common.{◌≡◌, ℕ, ◌*◌, ◌^◌, ◌<◌, ◌≤◌, Bool, List, [], ◌∷◌, Some, map, set, length, slice_get, refl, sym, ap, ◌∙◌, subst}
use Rattle.std.specs.Prelude.{pos, slice_index}
use Rattle.std.specs.Int.{div_ceil}
use Rattle.std.specs.List.{All, range_with_len}
use Rattle.std.proofs.Math.Nat.{mod-lt, mul-one}
use Rattle.std.proofs.lemmas.List.{length-map}
use Rattle.std.proofs.lemmas.List.FromFn.{length-map-range_with_len}
use Rattle.std.proofs.lemmas.Nat.{pow_pos}
use Rattle.std.proofs.lemmas.Option.{slice_get_within}
use Rattle.bern_base.specs.declared.job.Checked.{Checked}
use Rattle.bern_base.specs.declared.job.Nest.{Nest}
use Rattle.bern_base.specs.declared.job.PlaceKind.{PlaceKind}
use Rattle.bern_base.specs.declared.limits.TheConstants.{MOST_RANKS, MOST_SIDE}
use Rattle.bern_base.specs.declared.matrix.Entry.{Entry}
use Rattle.bern_base.specs.declared.matrix.Matrix.{Matrix}
use Rattle.bern_base.specs.Matrix.{element, matrix_values, values_of, IsInside, IsMatrix}
use Rattle.job_model.specs.State.{values_in, read}
use Rattle.bern_base.proofs.ValuesLemmas.{get_or-matrix_values}
use Rattle.job_model.specs.Nests.{end_state}
use Rattle.placement.specs.Cyclic.{cyclic_triples}
use Rattle.placement.specs.Placement.{Triple}
use Rattle.rank_model.specs.Products.{IsRun, end_value}
use Rattle.rank_node.specs.Jobs.{IsJobOf, IsProductNest, block_of, is_whole}
use Rattle.rank_product.specs.declared.shape.ProductShape.{ProductShape}
use Rattle.rank_product.specs.Shapes.{IsProduct, IsNestOf, IsOver, is_dense_level, is_sparse}
use Rattle.rank_product.specs.Runs.{AreOfJob, block_place, entries_of, cols_of, first_state, owned_elements, run_of}
use Rattle.rank_product.proofs.DenseLemmas.{AreArrays, sums-dense}
use Rattle.rank_product.proofs.NestLemmas.{loop_is, nests-dense}
use Rattle.rank_product.proofs.ListLemmas.{all_at, one_of}
use Rattle.rank_product.proofs.PartsLemmas.{first_at, owned_elements-one}
use Rattle.rank_product.proofs.PlaceLemmas.{length-block_place, place_is, some_block}
use Rattle.rank_product.proofs.ShapeLemmas.{IsMatrixAt, matrix_at, has_array, has_place, vector_whole, whole_within, counts_are, dims_apart}

-- the matrices of T, S and D
record AreMatrices (p : ProductShape) (ms : List Matrix) : Type 0 where
  target : IsMatrixAt ms p.size 1 p.target
  stored : IsMatrixAt ms p.size 2 p.stored
  source : IsMatrixAt ms p.size 1 p.source

are_matrices : (job : Checked) (p : ProductShape) (ms : List Matrix) → IsProduct job p → AreOfJob job ms → AreMatrices p ms
are_matrices job p ms is are = record {
  target = matrix_at is_dense_level 1 job p ms p.target is are is.target;
  stored = matrix_at is_sparse 2 job p ms p.stored is are is.stored;
  source = matrix_at is_dense_level 1 job p ms p.source is are is.source;
}

square_inside : (n : ℕ) (m : Matrix) → IsMatrix m → m.rows ≡ n → m.cols ≡ n → All (IsInside n n) m.entries
square_inside n m is rows cols = subst (λ r. All (IsInside r n) m.entries) rows (subst (λ c. All (IsInside m.rows c) m.entries) cols is.inside)

-- the stored entries lie inside
stored_inside : (job : Checked) (p : ProductShape) (ms : List Matrix) → IsProduct job p → AreOfJob job ms → All (IsInside p.size p.size) (entries_of (slice_get ms p.stored))
stored_inside job p ms is are =
    let m = (are_matrices job p ms is are).stored in
    subst (λ found. All (IsInside p.size p.size) (entries_of found)) (sym m.there) (square_inside p.size m.of (all_at IsMatrix ms p.stored m.of are.matrices_are m.there) m.rows m.cols)

pub stored_within : (job : Checked) (p : ProductShape) (ms : List Matrix) → IsProduct job p → AreOfJob job ms → p.stored < length ms
stored_within job p ms is are =
    let m = (are_matrices job p ms is are).stored in
    slice_get_within ms p.stored m.of m.there

-- a vector has a value for each index, and its elements are placed as the rows
vector_long : (ms : List Matrix) (n k : ℕ) → IsMatrixAt ms n 1 k → length (values_in (first_state ms) k) ≡ n
vector_long ms n k m =
    ap length (first_at ms k m.of m.there)
    ∙ length-map-range_with_len (element m.of.cols m.of.entries) 0 (m.of.rows * m.of.cols)
    ∙ ap (λ c. m.of.rows * c) m.cols ∙ mul-one m.of.rows ∙ m.rows

vector_held : (ms : List Matrix) (n k : ℕ) (ts : List Triple) (r : ℕ) → IsMatrixAt ms n 1 k → owned_elements (cols_of (slice_get ms k)) ts r ≡ owned_elements 1 ts r
vector_held ms n k ts r m = ap (λ found. owned_elements (cols_of found) ts r) m.there ∙ ap (λ c. owned_elements c ts r) m.cols

pub run_is : (job : Checked) (p : ProductShape) (ranks : ℕ) (ms : List Matrix) → IsProduct job p → AreOfJob job ms → 1 ≤ ranks → ranks ≤ MOST_RANKS → IsRun (run_of (is_whole job) p ranks ms)
run_is job p ranks ms is are some most =
    let ts : List Triple = block_place p.size ranks in
    let long : length ts ≡ p.size = length-block_place p.size ranks in
    let all : length (first_state ms) ≡ length ms = length-map ms values_of in
    let m = are_matrices job p ms is are in record {
      some = some;
      most = most;
      placed = place_is p.size ranks is.some some;
      extent = subst (λ n. n ≤ MOST_SIDE) (sym long) is.most;
      inside = subst (λ n. All (IsInside n n) (entries_of (slice_get ms p.stored))) (sym long) (stored_inside job p ms is are);
      apart = is.apart;
      target = subst (λ n. p.target < n) (sym all) (slice_get_within ms p.target m.target.of m.target.there);
      source = subst (λ n. p.source < n) (sym all) (slice_get_within ms p.source m.source.of m.source.there);
      dense_within = λ array whole. subst (λ n. array < n) (sym (all ∙ counts_are job ms are)) (whole_within job.formats job.arrays array whole);
      target_dense = vector_whole job p.target is.target;
      source_dense = vector_whole job p.source is.source;
      target_long = vector_long ms p.size p.target m.target ∙ sym long;
      target_held = λ r. vector_held ms p.size p.target ts r m.target ∙ owned_elements-one ts r;
      source_held = λ r. vector_held ms p.size p.source ts r m.source ∙ owned_elements-one ts r;
    }

-- the nest of a product is that of its run
nest_is : (whole : ℕ → Bool) (p : ProductShape) (ranks : ℕ) (ms : List Matrix) (nest : Nest) → IsNestOf p nest → IsProductNest (run_of whole p ranks ms) nest
nest_is whole p ranks ms nest is =
    let loop = loop_is p nest is in record {
      box = loop.box ∙ ap (λ n. (pos 0, pos n) ∷ (pos 0, pos n) ∷ []) (sym (length-block_place p.size ranks));
      guards = loop.guards;
      target = loop.target;
      grows = loop.grows;
      body = loop.body;
    }

pub job_is : (job : Checked) (p : ProductShape) (ranks : ℕ) (ms : List Matrix) → IsProduct job p → 1 ≤ ranks → IsJobOf (run_of (is_whole job) p ranks ms) job
job_is job p ranks ms is some =
    let nests = one_of job.nests is.one in
    let has = has_array is_dense_level 1 job.formats (slice_get job.arrays p.target) is.target in
    let over = all_at (IsOver p) job.arrays p.target has.array is.arrays has.there in
    let place = has_place p.size job.extents (slice_get job.places p.place) is.place in record {
      nest = nests.first;
      nests = nests.is;
      product = nest_is (is_whole job) p ranks ms nests.first (all_at (IsNestOf p) job.nests 0 nests.first is.nests (ap (λ (xs : List Nest). slice_get xs 0) nests.is));
      array = has.array;
      array_is = has.there;
      place = place.place;
      place_is = ap (slice_get job.places) over.place ∙ place.there;
      extent = place.extent;
      extent_is = place.extent_there;
      size = place.size ∙ sym (length-block_place p.size ranks);
      block = div_ceil p.size ranks;
      some_block = some_block p.size ranks is.some some;
      block_is = ap (λ (k : PlaceKind). block_of k place.extent.size ranks) place.kind ∙ ap (λ n. Some (div_ceil n ranks)) place.size;
      dealt = ap (λ n. cyclic_triples n ranks (div_ceil p.size ranks)) (sym place.size);
      whole = λ number. refl;
    }

values_below : (m : Matrix) (k : ℕ) → k < m.rows * m.cols → slice_index (values_of m) k < 2 ^ 64
values_below m k below = subst (λ v. v < 2 ^ 64) (sym (get_or-matrix_values m.rows m.cols m.entries k below)) (mod-lt _ (pow_pos 64))

-- T begins with values
target_below : (ms : List Matrix) (n k i : ℕ) → IsMatrixAt ms n 1 k → i < n → read (first_state ms) k i < 2 ^ 64
target_below ms n k i m below =
    let long : m.of.rows * m.of.cols ≡ n = ap (λ c. m.of.rows * c) m.cols ∙ mul-one m.of.rows ∙ m.rows in
    subst (λ values. slice_index values i < 2 ^ 64) (sym (first_at ms k m.of m.there)) (values_below m.of i (subst (λ s. i < s) (sym long) below))

-- the nests of the job leave in T what the run leaves there, and all else as at first
pub product_end : (job : Checked) (p : ProductShape) (ranks : ℕ) (ms : List Matrix) → IsProduct job p → AreOfJob job ms →
    end_state job (first_state ms) ≡ set (first_state ms) p.target (map (end_value (run_of (is_whole job) p ranks ms)) (range_with_len 0 p.size))
product_end job p ranks ms is are =
    let m = are_matrices job p ms is are in
    let first = first_state ms in
    let a : List Entry = entries_of (slice_get ms p.stored) in
    let s = m.stored in
    let stored : values_in first p.stored ≡ matrix_values p.size p.size a =
    first_at ms p.stored s.of s.there
    ∙ ap (λ r. matrix_values r s.of.cols s.of.entries) s.rows ∙ ap (λ c. matrix_values p.size c s.of.entries) s.cols
    ∙ ap (λ found. matrix_values p.size p.size (entries_of found)) (sym s.there) in
    let arrays : AreArrays p first (matrix_values p.size p.size a) (values_in first p.source) = record {
      target = subst (λ n. p.target < n) (sym (length-map ms values_of)) (slice_get_within ms p.target m.target.of m.target.there);
      off_stored = dims_apart is_sparse is_dense_level job.formats job.arrays p.stored p.target is.stored is.target;
      off_source = λ same. is.apart (sym same);
      stored = stored;
      source = refl;
    } in
    nests-dense job p first is
    ∙ sums-dense p first a (end_value (run_of (is_whole job) p ranks ms)) arrays (stored_inside job p ms is are) (vector_long ms p.size p.target m.target)
    (λ k below. target_below ms p.size p.target k m.target below) (λ k. refl)
