-- The rules of a job, one predicate a rule, and the first that a line breaks.
use Rattle.std.specs.Prelude.{ℕ, List, [], ◌∷◌, Option, Bool, false, not, ◌&&◌, ◌||◌, ◌==◌, nat_lt, nat_le, nat_eq, unsigned_abs, length, slice_index_or, is_none}
use Rattle.std.specs.List.{list_any, find}
use Rattle.bern_base.specs.declared.axes.Axis.{Axis}
use Rattle.bern_base.specs.Shapes.{dims_of, is_by_row}
use Rattle.bern_base.specs.declared.shape.Shape.{Shape}
use Rattle.bern_base.specs.declared.limits.TheConstants.{EXPRESSION_LEVELS, MOST_ARRAYS, MOST_EXTENTS, MOST_FORMATS, MOST_NESTS, MOST_OFFSET, MOST_OFFSETS, MOST_PLACES, MOST_SIDE}
use Rattle.bern_base.specs.declared.raw.Form.{Form}
use Rattle.bern_base.specs.declared.raw.Form.TheVariants as form
use Rattle.bern_base.specs.declared.raw.RawKind.{RawKind}
use Rattle.bern_base.specs.declared.raw.RawKind.TheVariants as kind
use Rattle.bern_base.specs.declared.raw.RawNest.{RawNest}
use Rattle.bern_base.specs.declared.raw.RawShape.{RawShape}
use Rattle.bern_base.specs.declared.raw.RawShape.TheVariants as shape
use Rattle.bern_base.specs.declared.raw.RawVar.{RawVar}
use Rattle.bern_base.specs.declared.refusal.Rule.{Rule}
use Rattle.bern_base.specs.declared.refusal.Rule.TheVariants as r
use Rattle.job_rules.specs.declared.names.Named.{Named}
use Rattle.job_rules.specs.declared.resolved.ResolvedNest.{ResolvedNest}
use Rattle.job_rules.specs.Known.{Known, lookup}
use Rattle.job_rules.specs.State.{State, is_known, is_extent, is_place, is_format, is_array, number_of, place_extent, shape_at, axis_place}
use Rattle.job_model.specs.Accepted.{is_col}
use Rattle.job_rules.specs.Looked.{scope_of, nest_in}
use Rattle.job_rules.specs.Nests as n
use Rattle.job_rules.specs.Terms.{terms_of, has_too_many}

abbrev pub looked : State → RawNest → ResolvedNest
looked state nest = nest_in (scope_of state nest) nest

-- a loop variable has a declared name
unfoldable pub hides_name : Known → List RawVar → Bool
hides_name known vars = list_any (λ var. is_known var.name known) vars

abbrev pub is_printed : List ℕ → Option Named → Bool
is_printed prints what = is_array what && list_any (nat_eq (number_of what)) prints

-- J3: a declared name is declared before; a loop variable has a declared name; an array is printed a second time
abbrev pub declares_again : State → Form → Bool
declares_again state (form.Extent name size) = is_known name state.names
declares_again state (form.Place name extent dealt) = is_known name state.names
declares_again state (form.Format name how) = is_known name state.names
declares_again state (form.Array name extents format axis place file) = is_known name state.names
declares_again state (form.Nest nest) = hides_name state.names nest.vars
declares_again state (form.Print name) = is_printed state.job.prints (lookup name state.names)

abbrev pub is_unknown_in : Known → List ℕ → Bool
is_unknown_in known name = is_none (lookup name known)

abbrev pub is_no_extent_in : Known → List ℕ → Bool
is_no_extent_in known name = not (is_extent (lookup name known))

unfoldable pub some_unknown : Known → List (List ℕ) → Bool
some_unknown known names = list_any (is_unknown_in known) names

unfoldable pub some_no_extent : Known → List (List ℕ) → Bool
some_no_extent known names = list_any (is_no_extent_in known) names

-- J4: a name is not known
abbrev pub names_unknown : State → Form → Bool
names_unknown state (form.Extent name size) = false
names_unknown state (form.Place name extent dealt) = is_unknown_in state.names extent
names_unknown state (form.Format name how) = false
names_unknown state (form.Array name extents format axis place file) =
    some_unknown state.names extents || is_unknown_in state.names format || is_unknown_in state.names place
names_unknown state (form.Nest nest) = n.has_unknown (looked state nest)
names_unknown state (form.Print name) = is_unknown_in state.names name

-- J5: a name is of another kind than its place needs
abbrev pub names_other_kind : State → Form → Bool
names_other_kind state (form.Extent name size) = false
names_other_kind state (form.Place name extent dealt) = is_no_extent_in state.names extent
names_other_kind state (form.Format name how) = false
names_other_kind state (form.Array name extents format axis place file) =
    some_no_extent state.names extents || not (is_format (lookup format state.names)) || not (is_place (lookup place state.names))
names_other_kind state (form.Nest nest) = n.has_other_kind (looked state nest)
names_other_kind state (form.Print name) = not (is_array (lookup name state.names))

-- the shape has so many extents, and columns are not dealt where only rows can be
unfoldable pub fits_shape : Shape → ℕ → Bool → Bool
fits_shape shape extents by_col = dims_of shape == extents && not (by_col && (nat_eq extents 1 || is_by_row shape))

-- J6: the format has another number of dimensions, or the split axis does not fit
abbrev pub format_does_not_fit : State → Form → Bool
format_does_not_fit state (form.Array name extents format axis place file) =
    not (fits_shape (shape_at state.job.formats (number_of (lookup format state.names))) (length extents) (is_col axis))
format_does_not_fit state other = false

-- the extent that an array of these extents has on an axis
unfoldable pub extent_on : Known → List (List ℕ) → Axis → ℕ
extent_on known extents axis = number_of (lookup (slice_index_or extents (axis_place axis) []) known)

-- J7: the extent of the split axis is not the place's extent
abbrev pub splits_other_extent : State → Form → Bool
splits_other_extent state (form.Array name extents format axis place file) =
    not (extent_on state.names extents axis == place_extent state.job.places (number_of (lookup place state.names)))
splits_other_extent state other = false

-- J8: a nest has a variable twice
abbrev pub has_variable_twice : State → Form → Bool
has_variable_twice state (form.Nest nest) = n.has_variable_twice (looked state nest)
has_variable_twice state other = false

-- J9: a reference has another number of subscripts than its array has dimensions
abbrev pub has_other_subscripts : State → Form → Bool
has_other_subscripts state (form.Nest nest) = n.has_other_subscripts state.job (looked state nest)
has_other_subscripts state other = false

-- J10: a subscript leaves its extent somewhere in the box
abbrev pub leaves_box : State → Form → Bool
leaves_box state (form.Nest nest) = n.leaves_box state.job (n.ranges_of (looked state nest)) (looked state nest)
leaves_box state other = false

abbrev pub is_sparse_array : State → ℕ → Bool
is_sparse_array state array = not (n.facts_at state.job array).dense

-- J11: the target of a nest, or the array that is printed, is not of an all-dense format
abbrev pub shows_sparse : State → Form → Bool
shows_sparse state (form.Nest nest) = n.has_sparse_target state.job (looked state nest)
shows_sparse state (form.Print name) = is_sparse_array state (number_of (lookup name state.names))
shows_sparse state other = false

abbrev pub is_one_to_one : State → RawNest → Bool
is_one_to_one state nest = n.is_one_to_one (n.ranges_of (looked state nest)) (looked state nest)

-- J12: the target's array is read otherwise than at the target, or is read and the nest is not one-to-one
abbrev pub reads_target_otherwise : State → Form → Bool
reads_target_otherwise state (form.Nest nest) = n.reads_target_otherwise (is_one_to_one state nest) (looked state nest)
reads_target_otherwise state other = false

-- J13: `=` and the nest is not one-to-one
abbrev pub replaces_again : State → Form → Bool
replaces_again state (form.Nest nest) = nest.replace && not (is_one_to_one state nest)
replaces_again state other = false

-- J14: a reference to a sparse array is not aligned
abbrev pub reads_elsewhere : State → Form → Bool
reads_elsewhere state (form.Nest nest) = n.reads_elsewhere state.job (looked state nest)
reads_elsewhere state other = false

-- sizes and blocks are 1 to `MOST_SIDE`
abbrev pub is_no_size : ℕ → Bool
is_no_size size = nat_eq size 0 || nat_lt MOST_SIDE size

abbrev pub kind_past_limit : RawKind → Bool
kind_past_limit (kind.Cyclic block) = is_no_size block
kind_past_limit other = false

-- at most so many offsets, each at most so large
unfoldable pub shape_past_limit : RawShape → Bool
shape_past_limit (shape.Diagonal offsets) = nat_lt MOST_OFFSETS (length offsets) || list_any (λ offset. nat_lt MOST_OFFSET (unsigned_abs offset)) offsets
shape_past_limit other = false

unfoldable pub has_too_many_terms : RawNest → Bool
has_too_many_terms nest = has_too_many (terms_of EXPRESSION_LEVELS nest.body)

-- J15: a quantity is past its limit
abbrev pub passes_limit : State → Form → Bool
passes_limit state (form.Extent name size) = is_no_size size || nat_le MOST_EXTENTS (length state.job.extents)
passes_limit state (form.Place name extent dealt) = kind_past_limit dealt || nat_le MOST_PLACES (length state.job.places)
passes_limit state (form.Format name how) = shape_past_limit how || nat_le MOST_FORMATS (length state.job.formats)
passes_limit state (form.Array name extents format axis place file) = nat_le MOST_ARRAYS (length state.job.arrays)
passes_limit state (form.Nest nest) =
    nat_le MOST_NESTS (length state.job.nests) || n.is_too_wide (n.ranges_of (looked state nest)) (looked state nest) || has_too_many_terms nest
passes_limit state (form.Print name) = false

-- the rules that a line with a form may break, in their order
abbrev pub table : List Rule
table = r.J3 ∷ r.J4 ∷ r.J5 ∷ r.J6 ∷ r.J7 ∷ r.J8 ∷ r.J9 ∷ r.J10 ∷ r.J11 ∷ r.J12 ∷ r.J13 ∷ r.J14 ∷ r.J15 ∷ []

abbrev pub breaks : State → Form → Rule → Bool
breaks state line r.J3 = declares_again state line
breaks state line r.J4 = names_unknown state line
breaks state line r.J5 = names_other_kind state line
breaks state line r.J6 = format_does_not_fit state line
breaks state line r.J7 = splits_other_extent state line
breaks state line r.J8 = has_variable_twice state line
breaks state line r.J9 = has_other_subscripts state line
breaks state line r.J10 = leaves_box state line
breaks state line r.J11 = shows_sparse state line
breaks state line r.J12 = reads_target_otherwise state line
breaks state line r.J13 = replaces_again state line
breaks state line r.J14 = reads_elsewhere state line
breaks state line r.J15 = passes_limit state line
breaks state line other = false

-- the first rule of the table that the line breaks
abbrev pub broken_rule : State → Form → Option Rule
broken_rule state line = find (breaks state line) table
