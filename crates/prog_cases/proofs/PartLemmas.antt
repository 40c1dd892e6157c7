-- The arrays of a small loaded job can be split.
use Rattle.std.proofs.Common.{◌≡◌, ◌≢◌, ◌∙◌, ℕ, ◌≤◌, List, length, true, false, Some, refl, sym, ap, subst, arith}
use Rattle.std.specs.Prelude.{slice_get}
use Rattle.bern_base.specs.Shapes.{is_by_row}
use Rattle.bern_base.specs.declared.axes.Axis.{Axis}
use Rattle.bern_base.specs.declared.axes.Axis.TheVariants as axis
use Rattle.bern_base.specs.declared.job.ArrayDecl.{ArrayDecl}
use Rattle.bern_base.specs.declared.job.Checked.{Checked}
use Rattle.bern_base.specs.declared.job.FormatDecl.{FormatDecl}
use Rattle.bern_base.specs.declared.matrix.Matrix.{Matrix}
use Rattle.format_model.specs.Checks.{astray_rule}
use Rattle.format_model.specs.Weights.{shape_weight}
use Rattle.formats.specs.Admitted.{IsAdmitted}
use Rattle.formats.proofs.AdmittedLemmas.{sizes_of}
use Rattle.job_files.specs.Weight.{array_weight, format_weight, weight_of}
use Rattle.job_model.specs.Accepted.{IsArrayOf, is_col}
use Rattle.job_plans.proofs.PlanLemmas.{all_there}
use Rattle.placement.specs.Part.{extent_on}
use Rattle.whole_laws.specs.HeldArrays.{IsWhole}
use Rattle.whole_runs.specs.Engine.{CanRun}
use Rattle.whole_runs.proofs.ListLemmas.{some_same}
use Rattle.whole_runs.proofs.StoreLemmas.{for_array, one_of_sum}

row_axis : (a : Axis) → a ≢ axis.Both → is_col a ≡ false → a ≡ axis.Row
row_axis axis.Row side is = refl
row_axis axis.Col side is = absurd cc
row_axis axis.Both side is = absurd (side refl)

pub admitted : (job : Checked) (ms : List Matrix) (orders : List (List ℕ)) (k : ℕ) (array : ArrayDecl) (format : FormatDecl) (m : Matrix) (order : List ℕ) (ranks : ℕ) →
    CanRun job ms orders → slice_get job.arrays k ≡ Some array → slice_get job.formats array.format ≡ Some format → slice_get ms k ≡ Some m → slice_get orders k ≡ Some order →
    array.axis ≢ axis.Both → weight_of job ranks ≤ 1000 → length m.entries ≤ 1000 → IsAdmitted array format ranks order m
admitted job ms orders k array format m order ranks can array_is format_is matrix_is order_is side light few =
    let found = for_array job ms orders k m order can matrix_is order_is in
    let array_same : found.array ≡ array = some_same (sym found.array_is ∙ array_is) in
    let format_same : found.format ≡ format = some_same (sym found.format_is ∙ ap (λ (a : ArrayDecl). slice_get job.formats a.format) array_same ∙ format_is) in
    let whole : IsWhole array format found.ranks order m =
    subst (λ f. IsWhole array f found.ranks order m) format_same (subst (λ a. IsWhole a found.format found.ranks order m) array_same found.whole) in
    let of : IsArrayOf job array = all_there (IsArrayOf job) job.arrays k array can.accepted.arrays array_is in
    let own : of.format.0 ≡ format = some_same (sym of.format.1 ∙ format_is) in
    let by_row : is_by_row format.shape ≡ true → is_col array.axis ≡ false = subst (λ (f : FormatDecl). is_by_row f.shape ≡ true → is_col array.axis ≡ false) own of.format.2.1 in
    let weight : shape_weight format.shape ranks array ≤ weight_of job ranks =
    subst (λ o. format_weight o ranks array ≤ weight_of job ranks) format_is (one_of_sum (array_weight job.formats ranks) job.arrays k array array_is) in record {
      rows = whole.rows;
      cols = whole.cols;
      side = side;
      levels = whole.levels;
      dims = whole.dims;
      by_row = λ one. row_axis array.axis side (by_row one);
      flat = λ one. (whole.flat one, row_axis array.axis side (of.flat one).1);
      matrix = whole.matrix;
      checked = whole.checked;
      listed = whole.listed;
      weight = omega (arith, weight, light, few);
    }

-- the split axis has the extent of the whole matrix
pub extent_same : (array : ArrayDecl) (format : FormatDecl) (ranks : ℕ) (order : List ℕ) (m : Matrix) → IsAdmitted array format ranks order m → extent_on array.axis m.rows m.cols ≡ extent_on array.axis array.rows array.cols
extent_same array format ranks order m is =
    let sizes = sizes_of array.rows array.cols m (astray_rule format.shape m) is.checked in
    ap (λ r. extent_on array.axis r m.cols) sizes.0 ∙ ap (λ c. extent_on array.axis array.rows c) sizes.1
