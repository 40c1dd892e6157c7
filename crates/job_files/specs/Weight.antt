-- What the arrays of a job weigh without files: how many elements or lines their formats keep, whatever is read.
use Rattle.std.specs.Prelude.{ℕ, List, Option, Some, None, slice_get}
use Rattle.std.specs.List.{sum_by}
use Rattle.bern_base.specs.declared.job.ArrayDecl.{ArrayDecl}
use Rattle.bern_base.specs.declared.job.Checked.{Checked}
use Rattle.bern_base.specs.declared.job.FormatDecl.{FormatDecl}
use Rattle.format_model.specs.Weights.{shape_weight}

abbrev pub format_weight : Option FormatDecl → ℕ → ArrayDecl → ℕ
format_weight None ranks array = 0
format_weight (Some format) ranks array = shape_weight format.shape ranks array

abbrev pub array_weight : List FormatDecl → ℕ → ArrayDecl → ℕ
array_weight formats ranks array = format_weight (slice_get formats array.format) ranks array

-- what all arrays weigh on so many ranks
abbrev pub weight_of : Checked → ℕ → ℕ
weight_of job ranks = sum_by (array_weight job.formats ranks) job.arrays
