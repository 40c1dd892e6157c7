-- Formats that an array of three rows and columns, split by rows, can have in a job.
use Rattle.std.specs.Prelude.{◌≡◌, ℕ, ◌≤◌, List}
use Rattle.bern_base.specs.Shapes.{dims_of}
use Rattle.bern_base.specs.declared.job.ArrayDecl.{ArrayDecl}
use Rattle.bern_base.specs.declared.shape.Shape.{Shape}
use Rattle.format_model.specs.Weights.{shape_weight}
use Rattle.formats.specs.Admitted.{HasLevels, HasOrder}

pub record IsUsable (s : Shape) (order : List ℕ) : Type 0 where
  pub levels : HasLevels s
  pub dims : dims_of s ≡ 2
  pub listed : HasOrder s 3 order
  pub light : (ranks : ℕ) (decl : ArrayDecl) → decl.rows ≡ 3 → decl.cols ≡ 3 → shape_weight s ranks decl ≤ 100
