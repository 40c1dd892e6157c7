-- What bytes are accepted as has formats with levels, and nests with variables.
use Rattle.std.proofs.Common.{◌≡◌, ℕ, List, get_or}
use Rattle.std.specs.List.{All}
use Rattle.bern_base.specs.declared.axes.Axis.{Axis}
use Rattle.bern_base.specs.declared.axes.Axis.TheVariants as axis
use Rattle.bern_base.specs.declared.job.Checked.{Checked}
use Rattle.bern_base.specs.declared.shape.Shape.{Shape}
use Rattle.bern_base.specs.declared.shape.Shape.TheVariants as shape
use Rattle.format_model.specs.Laws.{IsSide}
use Rattle.formats.specs.Admitted.{HasLevels}
use Rattle.job_accept.specs.Axes.{HasOuterAxis, IsOneAxis}
use Rattle.job_accept.specs.Front.{AcceptsBytes}
use Rattle.job_accept.specs.Offsets.{HasRisingOffsets}
use Rattle.job_accept.proofs.AxisLemmas.{axes_one}
use Rattle.job_accept.proofs.OffsetLemmas.{offsets_rise}
use Rattle.job_accept.proofs.VariableLemmas.{nests_have_variables}
use Rattle.job_model.specs.Accepted.{HasOffsets, IsAccepted}
use Rattle.whole_runs.specs.Engine.{IsFormed}

one_side : (a : Axis) → IsOneAxis a → IsSide a
one_side axis.Row one = λ same. cc
one_side axis.Col one = λ same. cc
one_side axis.Both one = absurd one

has_levels : (s : Shape) → HasOuterAxis s → HasRisingOffsets s → HasOffsets s → HasLevels s
has_levels (shape.DenseDense outer) one rising offsets = one_side outer one
has_levels (shape.DensePacked outer) one rising offsets = one_side outer one
has_levels (shape.PackedPacked outer) one rising offsets = one_side outer one
has_levels (shape.Diagonal listed) one rising offsets = (offsets.0, offsets.1, rising)
has_levels shape.DenseOne one rising offsets = tt
has_levels shape.PackedOne one rising offsets = tt
has_levels shape.ListOne one rising offsets = tt
has_levels shape.ListTwo one rising offsets = tt
has_levels shape.Jagged one rising offsets = tt
has_levels (shape.Permute file) one rising offsets = tt

pub accepted_formed : (bytes : List ℕ) (job : Checked) → AcceptsBytes bytes job → IsAccepted job → IsFormed job
accepted_formed bytes job accepts is = record {
  levels = λ k d low. has_levels (get_or job.formats k d).shape (axes_one bytes job accepts k d low) (offsets_rise bytes job accepts k d low) (is.formats k d low);
  variables = nests_have_variables bytes job accepts;
}
