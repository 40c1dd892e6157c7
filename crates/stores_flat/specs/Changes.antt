-- A store in which one element is set, and the parts that it has before and after.
use Rattle.std.specs.Prelude.{◌≡◌, ℕ, Bool, Option, Some, slice_set}
use Rattle.bern_base.specs.Matrix.{values_of}
use Rattle.bern_base.specs.declared.axes.Axis.{Axis}
use Rattle.bern_base.specs.declared.matrix.Matrix.{Matrix}
use Rattle.format_model.specs.Grids.{Grid, with_element}
use Rattle.stores_flat.specs.Dense.{grid_of}

-- before it had the elements of a part; then one of them was set; and another part of the same sizes has the values of the first
-- one but for that element
pub record SetsElement (before after : Option Grid) (single : Bool) (outer : Axis) (old new : Matrix) (element value : ℕ) : Type 0 where
  pub had : before ≡ Some (grid_of single outer old)
  pub set : after ≡ with_element before element value
  pub rows : new.rows ≡ old.rows
  pub cols : new.cols ≡ old.cols
  pub values : values_of new ≡ slice_set (values_of old) element value
