-- Small matrices, which every format can store.
use Rattle.std.specs.Prelude.{◌*◌, ◌^◌, ◌<◌, Bool, true, false, length}
use Rattle.bern_base.specs.Matrix.{IsMatrix}
use Rattle.bern_base.specs.declared.matrix.Matrix.{Matrix}
use Rattle.bern_base.specs.declared.shape.Shape.{Shape}
use Rattle.bern_base.specs.declared.shape.Shape.TheVariants as shape

pub record IsSmall (m : Matrix) : Type 0 where
  pub matrix : IsMatrix m
  pub elements : m.rows * m.cols < 2 ^ 32
  pub entries : length m.entries < 2 ^ 32

-- a format without listed diagonals
abbrev pub is_free : Shape → Bool
is_free (shape.Diagonal offsets) = false
is_free other = true
