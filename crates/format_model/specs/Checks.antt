-- What a matrix has to be for an array of a format: of the array's sizes, and without values where a diagonal format has no place.
use Rattle.std.specs.Prelude.{ℕ, Bool, false, not, ◌&&◌, ◌==◌, if◌then◌else◌, List, ℤ, Option, Some, None}
use Rattle.std.specs.List.{list_any}
use Rattle.bern_base.specs.declared.job.ArrayDecl.{ArrayDecl}
use Rattle.bern_base.specs.declared.job.FormatDecl.{FormatDecl}
use Rattle.bern_base.specs.declared.matrix.Entry.{Entry}
use Rattle.bern_base.specs.declared.matrix.Matrix.{Matrix}
use Rattle.bern_base.specs.declared.refusal.Rule.{Rule}
use Rattle.bern_base.specs.declared.refusal.Rule.TheVariants.{F1, F2}
use Rattle.bern_base.specs.declared.shape.Shape.{Shape}
use Rattle.bern_base.specs.declared.shape.Shape.TheVariants as shape
use Rattle.format_model.specs.Stored.{is_on_diagonal}

abbrev pub has_sizes : ℕ → ℕ → Matrix → Bool
has_sizes rows cols m = m.rows == rows && m.cols == cols

-- rule F1: the sizes of a file's matrix are those that are wanted
abbrev pub sizes_rule : ℕ → ℕ → Matrix → Option Rule
sizes_rule rows cols m = if has_sizes rows cols m then None else Some F1

-- an entry off the listed diagonals has a value that is not 0
abbrev pub is_astray : List ℤ → Entry → Bool
is_astray offsets e = not (e.value == 0) && not (is_on_diagonal offsets e.row e.col)

-- some entry of a diagonal format does; the other formats have a place for each element
abbrev pub has_astray : Shape → List Entry → Bool
has_astray (shape.Diagonal offsets) entries = list_any (is_astray offsets) entries
has_astray other entries = false

-- rule F2: no entry does
abbrev pub astray_rule : Shape → Matrix → Option Rule
astray_rule s m = if has_astray s m.entries then Some F2 else None

abbrev pub first_of : Option Rule → Option Rule → Option Rule
first_of None later = later
first_of (Some rule) later = Some rule

-- the first rule that a matrix breaks for an array of a format
abbrev pub shape_rule : ArrayDecl → FormatDecl → Matrix → Option Rule
shape_rule decl format m = first_of (sizes_rule decl.rows decl.cols m) (astray_rule format.shape m)
