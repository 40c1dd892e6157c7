-- What stands before a line: the names that are known there, and the job so far, with numbers for names.
use Rattle.std.specs.Prelude.{ℕ, List, [], Option, Some, None, Bool, true, false, is_some, slice_get}
use Rattle.std.specs.Option.{option_map_or}
use Rattle.bern_base.specs.declared.axes.Axis.{Axis}
use Rattle.bern_base.specs.declared.axes.Axis.TheVariants as axis
use Rattle.bern_base.specs.declared.job.ExtentDecl.{ExtentDecl}
use Rattle.bern_base.specs.declared.job.FormatDecl.{FormatDecl}
use Rattle.bern_base.specs.declared.job.PlaceDecl.{PlaceDecl}
use Rattle.bern_base.specs.declared.shape.Shape.{Shape}
use Rattle.bern_base.specs.declared.shape.Shape.TheVariants as shape
use Rattle.job_rules.specs.declared.names.Named.{Named}
use Rattle.job_rules.specs.declared.names.Named.TheVariants as named
use Rattle.job_rules.specs.declared.draft.Draft.{Draft}
use Rattle.job_rules.specs.Known.{Known, lookup}

abbrev pub State : Type 0
State = Draft

-- before the first line nothing is known
abbrev pub start : State
start = record { names = []; job = record { extents = []; places = []; formats = []; arrays = []; nests = []; turns = []; prints = [] } }

abbrev pub is_known : List ℕ → Known → Bool
is_known name known = is_some (lookup name known)

-- what a name has to stand for
abbrev pub is_extent : Option Named → Bool
is_extent (Some (named.Extent n)) = true
is_extent other = false

abbrev pub is_place : Option Named → Bool
is_place (Some (named.Place n)) = true
is_place other = false

abbrev pub is_format : Option Named → Bool
is_format (Some (named.Format n)) = true
is_format other = false

abbrev pub is_array : Option Named → Bool
is_array (Some (named.Array n)) = true
is_array other = false

-- the number of the declaration that a name stands for
abbrev pub number_of : Option Named → ℕ
number_of (Some (named.Extent n)) = n
number_of (Some (named.Place n)) = n
number_of (Some (named.Format n)) = n
number_of (Some (named.Array n)) = n
number_of (Some (named.Variable n)) = 0
number_of None = 0

-- the size of the extent of a number
abbrev pub extent_size : List ExtentDecl → ℕ → ℕ
extent_size extents number = option_map_or (λ e. e.size) (slice_get extents number) 0

-- the extent that the place of a number deals
abbrev pub place_extent : List PlaceDecl → ℕ → ℕ
place_extent places number = option_map_or (λ p. p.extent) (slice_get places number) 0

abbrev pub shape_at : List FormatDecl → ℕ → Shape
shape_at formats number = option_map_or (λ f. f.shape) (slice_get formats number) shape.DenseOne

-- the place of an axis among an array's extents and a reference's subscripts
abbrev pub axis_place : Axis → ℕ
axis_place axis.Row = 0
axis_place axis.Col = 1
axis_place axis.Both = 0
