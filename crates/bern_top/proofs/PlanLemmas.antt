-- The terms of an accepted job can be planned by the matrices that its files have.
use Rattle.std.proofs.Common.{◌≡◌, ℕ, false, suc, List, [], ◌∷◌, get_or, Result, Ok, Err, IfOk, refl, subst, arith}
use Rattle.std.specs.List.{All, AllZip}
use Rattle.std.proofs.lemmas.List.Elements.{All-cons, All-nil}
use Rattle.bern_base.specs.declared.axes.Axis.{Axis}
use Rattle.bern_base.specs.declared.axes.Axis.TheVariants as axis
use Rattle.bern_base.specs.declared.job.ArrayDecl.{ArrayDecl}
use Rattle.bern_base.specs.declared.job.Checked.{Checked}
use Rattle.bern_base.specs.declared.matrix.Matrix.{Matrix}
use Rattle.bern_base.specs.declared.shape.Shape.{Shape}
use Rattle.bern_base.specs.declared.shape.Shape.TheVariants as shape
use Rattle.bern_base.specs.declared.stats.Stats.{Stats}
use Rattle.job_accept.specs.Axes as text
use Rattle.job_files.specs.FileOrder.{IsArrayIn}
use Rattle.job_files.proofs.ArrayLemmas.{zip_len}
use Rattle.job_model.specs.Accepted.{IsAccepted, IsArrayOf}
use Rattle.job_plans.specs.Laws.{IsPlannable, IsWithin}
use Rattle.job_plans.specs.Least.{AreLeast, measured}
use Rattle.join_plan.specs.Laws.{HasOuterAxis}
use Rattle.join_plan.specs.PlanText.{plan_text}
use Rattle.term_model.specs.Plans.{is_both}
use Rattle.term_model.specs.declared.plan.Plans.{Plans}
use Rattle.bern_top.specs.Endings.{IsTextOfPlans}

-- what a job's text has as an outer axis is no pair of both
one_axis : (a : Axis) → text.IsOneAxis a → is_both a ≡ false
one_axis axis.Row is = refl
one_axis axis.Col is = refl
one_axis axis.Both is = absurd is

outer_axis : (s : Shape) → text.HasOuterAxis s → HasOuterAxis s
outer_axis shape.DenseOne is = tt
outer_axis shape.PackedOne is = tt
outer_axis shape.ListOne is = tt
outer_axis (shape.DenseDense outer) is = one_axis outer is
outer_axis (shape.DensePacked outer) is = one_axis outer is
outer_axis (shape.PackedPacked outer) is = one_axis outer is
outer_axis shape.ListTwo is = tt
outer_axis shape.Jagged is = tt
outer_axis (shape.Diagonal offsets) is = tt
outer_axis (shape.Permute file) is = tt

-- the matrix of each array is within the limits of files
all_within : (job : Checked) (arrays : List ArrayDecl) (ms : List Matrix) → All (IsArrayOf job) arrays → AllZip (IsArrayIn job.formats) arrays ms → All IsWithin ms
all_within job [] [] all zip = All-nil IsWithin
all_within job [] (m ∷ ms) all zip = absurd zip
all_within job (array ∷ arrays) [] all zip = absurd zip
all_within job (array ∷ arrays) (m ∷ ms) all zip =
    let of = all 0 array (omega arith) in
    All-cons IsWithin m ms (record { rows = omega (arith, zip.0.is.rows, of.rows.1); cols = omega (arith, zip.0.is.cols, of.cols.1); entries = zip.0.is.few })
    (all_within job arrays ms (λ k d below. all (suc k) d (omega (arith, below))) zip.1)

pub can_be_planned : (job : Checked) (ms : List Matrix) → IsAccepted job → All (λ format. text.HasOuterAxis format.shape) job.formats → AllZip (IsArrayIn job.formats) job.arrays ms → IsPlannable job ms
can_be_planned job ms accepted axes zip = record {
  accepted = accepted;
  axes = λ k d below. outer_axis (get_or job.formats k d).shape (axes k d below);
  count = zip_len (IsArrayIn job.formats) job.arrays ms zip;
  within = all_within job job.arrays ms accepted.arrays zip;
}

-- the text of plans that are least by what was measured
pub text_planned : {E : Type 0} (job : Checked) (ms : List Matrix) (stats : List Stats) (plans : Plans) (result : Result (List ℕ) E) → stats ≡ measured job ms → AreLeast job stats plans → IfOk result (λ text. text ≡ plan_text job plans) →
    IfOk result (IsTextOfPlans job ms)
text_planned job ms stats plans (Ok text) is least same = (plans, subst (λ all. AreLeast job all plans) is least, same)
text_planned job ms stats plans (Err failed) is least same = tt
