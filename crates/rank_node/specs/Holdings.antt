-- What a new node holds of its parts.
use Rattle.std.specs.Prelude.{◌≡◌, ℕ, ◌<◌, true, List, [], Some, length, slice_get, slice_index_or}
use Rattle.std.specs.List.{All}
use Rattle.bern_base.specs.Matrix.{IsInside, matrix_values}
use Rattle.bern_base.specs.declared.job.Checked.{Checked}
use Rattle.placement.specs.declared.part.Part.{Part}
use Rattle.rank_node.specs.Jobs.{is_whole}

-- the entries of each array that is stored whole lie inside
abbrev pub AreInside : Checked → List Part → Type 0
AreInside job parts =
    (array : ℕ) (part : Part) → slice_get parts array ≡ Some part → is_whole job array ≡ true →
    All (IsInside part.matrix.rows part.matrix.cols) part.matrix.entries

-- of the first n arrays, those that are stored whole have the values of their parts
pub record AreHeld (job : Checked) (parts : List Part) (n : ℕ) (values : List (List ℕ)) : Type 0 where
  pub long : length values ≡ n
  pub each : (array : ℕ) (part : Part) → array < n → slice_get parts array ≡ Some part → is_whole job array ≡ true →
      slice_index_or values array [] ≡ matrix_values part.matrix.rows part.matrix.cols part.matrix.entries
