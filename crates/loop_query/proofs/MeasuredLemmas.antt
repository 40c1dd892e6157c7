-- What is measured of an array has the levels of its format.
use Rattle.std.proofs.Common.{◌≡◌, ◌∙◌, ℕ, List, [], ◌∷◌, map, length, refl, sym, ap}
use Rattle.std.proofs.lemmas.List.Elements.{All-head, All-tail}
use Rattle.std.specs.List.{All}
use Rattle.bern_base.specs.declared.job.Checked.{Checked}
use Rattle.bern_base.specs.declared.job.Ref.{Ref}
use Rattle.bern_base.specs.declared.matrix.Matrix.{Matrix}
use Rattle.bern_base.specs.declared.shape.Shape.{Shape}
use Rattle.bern_base.specs.declared.shape.Shape.TheVariants as shape
use Rattle.bern_base.specs.declared.stats.Stats.{Stats}
use Rattle.format_model.specs.Estimates.{stats_of}
use Rattle.format_model.specs.Levels.{levels_of}
use Rattle.term_model.specs.Plans.{plans}
use Rattle.term_model.specs.Queries.{IsMeasured, level_of, level_of_stat, levels_by, levels_in, levels_in_array, levels_in_format, levels_measured, plan_of, sparse_ref}
use Rattle.loop_query.specs.PlanLaws.{FormatsTellPlans}

shape_levels : (s : Shape) (m : Matrix) → map level_of_stat (stats_of s m) ≡ map level_of (levels_of s)
shape_levels shape.DenseOne m = refl
shape_levels shape.PackedOne m = refl
shape_levels shape.ListOne m = refl
shape_levels (shape.DenseDense outer) m = refl
shape_levels (shape.DensePacked outer) m = refl
shape_levels (shape.PackedPacked outer) m = refl
shape_levels shape.ListTwo m = refl
shape_levels shape.Jagged m = refl
shape_levels (shape.Diagonal offsets) m = refl
shape_levels (shape.Permute file) m = refl

measured_levels : (job : Checked) (stats : List Stats) (number : ℕ) → IsMeasured job stats number → levels_by stats number ≡ levels_in job number
measured_levels job stats number is =
    ap levels_measured is.stats_is ∙ shape_levels is.format.shape is.matrix
    ∙ sym (ap (levels_in_array job.formats) is.array_is ∙ ap levels_in_format is.format_is)

measured_refs : (job : Checked) (stats : List Stats) (refs : List Ref) → All (λ ref. IsMeasured job stats ref.array) refs → map (sparse_ref (levels_by stats)) refs ≡ map (sparse_ref (levels_in job)) refs
measured_refs job stats [] all = refl
measured_refs job stats (r ∷ refs) all =
    ap (λ levels. record { row = r.row; col = r.col; levels = levels } ∷ map (sparse_ref (levels_by stats)) refs) (measured_levels job stats r.array (All-head (λ ref. IsMeasured job stats ref.array) r refs all))
    ∙ ap (λ rest. sparse_ref (levels_in job) r ∷ rest) (measured_refs job stats refs (All-tail (λ ref. IsMeasured job stats ref.array) r refs all))

pub formats_tell_plans : FormatsTellPlans
formats_tell_plans job stats nest t all = ap (λ refs. map plan_of (plans (record { variables = length nest.vars; sparse = refs }))) (measured_refs job stats t.sparse all)
