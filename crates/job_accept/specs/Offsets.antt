-- The offsets that diagonal formats list, in a job.
use Rattle.std.specs.Prelude.{ℕ, ◌<ℤ◌, List}
use Rattle.std.specs.List.{All, AllPairs}
use Rattle.bern_base.specs.declared.job.Checked.{Checked}
use Rattle.bern_base.specs.declared.shape.Shape.{Shape}
use Rattle.bern_base.specs.declared.shape.Shape.TheVariants as shape
use Rattle.job_accept.specs.Front.{AcceptsBytes}

-- each offset of a diagonal format is above those before it
abbrev pub HasRisingOffsets : Shape → Type 0
HasRisingOffsets (shape.Diagonal offsets) = AllPairs (λ a b. a <ℤ b) offsets
HasRisingOffsets other = Unit {0}

-- what bytes are accepted as has no other diagonal format
abbrev pub OffsetsRise : Type 0
OffsetsRise = (bytes : List ℕ) (job : Checked) → AcceptsBytes bytes job → All (λ format. HasRisingOffsets format.shape) job.formats
