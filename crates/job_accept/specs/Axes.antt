-- The axes of the outer levels of formats, and those along which arrays are split, in a job.
use Rattle.std.specs.Prelude.{ℕ, List}
use Rattle.std.specs.List.{All}
use Rattle.bern_base.specs.declared.axes.Axis.{Axis}
use Rattle.bern_base.specs.declared.axes.Axis.TheVariants as axis
use Rattle.bern_base.specs.declared.job.Checked.{Checked}
use Rattle.bern_base.specs.declared.shape.Shape.{Shape}
use Rattle.bern_base.specs.declared.shape.Shape.TheVariants as shape
use Rattle.job_accept.specs.Front.{AcceptsBytes}

-- rows or columns, and not both
abbrev pub IsOneAxis : Axis → Type 0
IsOneAxis axis.Both = ⊥
IsOneAxis other = Unit {0}

-- the outer of two levels is on one axis
abbrev pub HasOuterAxis : Shape → Type 0
HasOuterAxis (shape.DenseDense outer) = IsOneAxis outer
HasOuterAxis (shape.DensePacked outer) = IsOneAxis outer
HasOuterAxis (shape.PackedPacked outer) = IsOneAxis outer
HasOuterAxis other = Unit {0}

-- what bytes are accepted as has no other formats of two levels
abbrev pub OuterAxesAreOne : Type 0
OuterAxesAreOne = (bytes : List ℕ) (job : Checked) → AcceptsBytes bytes job → All (λ format. HasOuterAxis format.shape) job.formats

-- and no array that is split along both
abbrev pub SplitAxesAreOne : Type 0
SplitAxesAreOne = (bytes : List ℕ) (job : Checked) → AcceptsBytes bytes job → All (λ array. IsOneAxis array.axis) job.arrays
