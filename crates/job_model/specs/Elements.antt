-- The element that a reference names at a point.
use Rattle.std.specs.Prelude.{ℕ, ◌+◌, ◌*◌, List, Option, Some, None, ℤ, slice_get}
use Rattle.bern_base.specs.Affine.{value_at}
use Rattle.bern_base.specs.declared.job.ArrayDecl.{ArrayDecl}
use Rattle.bern_base.specs.declared.job.Ref.{Ref}
use Rattle.job_model.specs.Points.{natural}

abbrev pub cols_of : Option ArrayDecl → ℕ
cols_of None = 0
cols_of (Some decl) = decl.cols

-- the element number: row * cols + col of its array
abbrev pub element_of : List ArrayDecl → Ref → List ℤ → ℕ
element_of arrays ref point = natural (value_at ref.row point) * cols_of (slice_get arrays ref.array) + natural (value_at ref.col point)
