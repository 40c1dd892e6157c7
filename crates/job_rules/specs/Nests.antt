-- The rules of a nest whose names are looked up, each by itself.
use Rattle.std.specs.Prelude.{ℕ, List, [], Some, None, Bool, true, false, not, ◌&&◌, ◌||◌, ◌==◌, nat_lt, pos, ◌-ℤ◌, int_lt, int_le, unsigned_abs, length, map, slice_index_or, is_none, if◌then◌else◌}
use Rattle.std.specs.List.{list_any, list_all, enumerate_from}
use Rattle.std.specs.Ordering.{int_eq}
use Rattle.bern_base.specs.Shapes.{is_all_dense}
use Rattle.bern_base.specs.declared.axes.Axis.TheVariants as axis
use Rattle.bern_base.specs.declared.job.ArrayDecl.{ArrayDecl}
use Rattle.bern_base.specs.declared.job.Checked.{Checked}
use Rattle.bern_base.specs.declared.limits.TheConstants.{MOST_BOUND, MOST_GUARDS, MOST_VARIABLES}
use Rattle.job_model.specs.Accepted.{is_col}
use Rattle.job_rules.specs.declared.names.Named.TheVariants as named
use Rattle.job_rules.specs.declared.items.Item.{Item}
use Rattle.job_rules.specs.declared.items.Meaning.{Meaning}
use Rattle.job_rules.specs.declared.items.Meaning.TheVariants as meaning
use Rattle.job_rules.specs.declared.ranges.Range.{Range}
use Rattle.job_rules.specs.declared.tables.Facts.{Facts}
use Rattle.job_rules.specs.declared.resolved.ResolvedGuard.{ResolvedGuard}
use Rattle.job_rules.specs.declared.resolved.ResolvedNest.{ResolvedNest}
use Rattle.job_rules.specs.declared.resolved.ResolvedRef.{ResolvedRef}
use Rattle.job_rules.specs.declared.resolved.ResolvedSpan.{ResolvedSpan}
use Rattle.job_rules.specs.State.{is_array, number_of, shape_at}
use Rattle.job_rules.specs.Sums.{Sum, constant_of, coefficient_of, variable_of, range_at, least, greatest, same_form, is_within}

-- what a name may fail to be
abbrev pub is_unknown : Meaning → Bool
is_unknown meaning.Unknown = true
is_unknown other = false

-- bounds take numbers and extents; subscripts and guards take variables too
abbrev pub is_no_bound : Meaning → Bool
is_no_bound meaning.Number = false
is_no_bound (meaning.Name (named.Extent e)) = false
is_no_bound other = true

abbrev pub is_no_count : Meaning → Bool
is_no_count meaning.Number = false
is_no_count (meaning.Name (named.Extent e)) = false
is_no_count (meaning.Name (named.Variable v)) = false
is_no_count other = true

-- the meaning of an item fails
unfoldable pub sum_fails : (Meaning → Bool) → Sum → Bool
sum_fails fails sum = list_any (λ item. fails item.meaning) sum

abbrev pub span_fails : (Meaning → Bool) → ResolvedSpan → Bool
span_fails fails span = sum_fails fails span.lo || sum_fails fails span.hi

abbrev pub guard_fails : (Meaning → Bool) → ResolvedGuard → Bool
guard_fails fails guard = sum_fails fails guard.left || sum_fails fails guard.right

abbrev pub ref_fails : (Meaning → Bool) → ResolvedRef → Bool
ref_fails fails ref = sum_fails fails ref.row || sum_fails fails ref.col

-- J4: a name is not known
abbrev pub ref_unknown : ResolvedRef → Bool
ref_unknown ref = is_none ref.array || ref_fails is_unknown ref

unfoldable pub has_unknown : ResolvedNest → Bool
has_unknown nest = list_any (span_fails is_unknown) nest.spans || list_any (guard_fails is_unknown) nest.guards || ref_unknown nest.target || list_any ref_unknown nest.reads

-- J5: a name is of another kind than its place needs
abbrev pub ref_of_other_kind : ResolvedRef → Bool
ref_of_other_kind ref = not (is_array ref.array) || ref_fails is_no_count ref

unfoldable pub has_other_kind : ResolvedNest → Bool
has_other_kind nest =
    list_any (span_fails is_no_bound) nest.spans || list_any (guard_fails is_no_count) nest.guards || ref_of_other_kind nest.target || list_any ref_of_other_kind nest.reads

-- J8: a variable stands twice, so there are fewer names than variables
unfoldable pub has_variable_twice : ResolvedNest → Bool
has_variable_twice nest = nat_lt nest.names (length nest.spans)

-- the array of a reference; one that is not there has no elements
abbrev pub no_array : ArrayDecl
no_array = record { name = []; dims = 0; rows = 0; cols = 0; format = 0; axis = axis.Row; place = 0; file = None }

abbrev pub array_at : List ArrayDecl → ℕ → ArrayDecl
array_at arrays number = slice_index_or arrays number no_array

-- what the rules ask of an array
abbrev pub facts_of : Checked → ArrayDecl → Facts
facts_of job array = record {
  dims = array.dims;
  rows = array.rows;
  cols = array.cols;
  place = array.place;
  by_col = is_col array.axis;
  dense = is_all_dense (shape_at job.formats array.format);
}

unfoldable pub facts_at : Checked → ℕ → Facts
facts_at job number = facts_of job (array_at job.arrays number)

abbrev pub array_of : Checked → ResolvedRef → Facts
array_of job ref = facts_at job (number_of ref.array)

-- J9: a reference has another number of subscripts than its array has dimensions
abbrev pub misses_subscripts : Checked → ResolvedRef → Bool
misses_subscripts job ref = not (ref.subs == (array_of job ref).dims)

unfoldable pub has_other_subscripts : Checked → ResolvedNest → Bool
has_other_subscripts job nest = misses_subscripts job nest.target || list_any (misses_subscripts job) nest.reads

-- the values of a variable, from its first bound to one below its second
abbrev pub range_of : ResolvedSpan → Range
range_of span = record { lo = constant_of span.lo; hi = constant_of span.hi }

unfoldable pub ranges_of : ResolvedNest → List Range
ranges_of nest = map range_of nest.spans

-- some variable has no value
unfoldable pub is_box_empty : List Range → Bool
is_box_empty ranges = list_any (λ range. int_le range.hi range.lo) ranges

-- at some point of the box the subscript is below 0 or not below its extent
unfoldable pub leaves_extent : List Range → ℕ → Sum → Bool
leaves_extent ranges extent sum = int_lt (least ranges sum) (pos 0) || int_le (pos extent) (greatest ranges sum)

abbrev pub leaves_array : Checked → List Range → ResolvedRef → Bool
leaves_array job ranges ref = leaves_extent ranges (array_of job ref).rows ref.row || leaves_extent ranges (array_of job ref).cols ref.col

-- J10: the box is not empty, and a subscript leaves its extent at some point of it, guards not regarded
unfoldable pub leaves_box : Checked → List Range → ResolvedNest → Bool
leaves_box job ranges nest = not (is_box_empty ranges) && (leaves_array job ranges nest.target || list_any (leaves_array job ranges) nest.reads)

abbrev pub is_dense_ref : Checked → ResolvedRef → Bool
is_dense_ref job ref = (array_of job ref).dense

-- J11: the target is not of an all-dense format
unfoldable pub has_sparse_target : Checked → ResolvedNest → Bool
has_sparse_target job nest = not (is_dense_ref job nest.target)

-- a variable with two values or more
abbrev pub is_many : List Range → ℕ → Bool
is_many ranges v = int_le (pos 2) ((range_at ranges v).hi -ℤ (range_at ranges v).lo)

-- an item by which the subscript varies with no variable but v
abbrev pub varies_only : List Range → Sum → ℕ → Item → Bool
varies_only ranges sum v item = elim (variable_of item.meaning) [
  | None ↦ true
  | Some w ↦ w == v || not (is_many ranges w) || int_eq (coefficient_of w sum) (pos 0)
]

-- among the variables with two values or more, v is the only one with a coefficient that is not 0
unfoldable pub is_alone : List Range → ℕ → Sum → Bool
is_alone ranges v sum = not (int_eq (coefficient_of v sum) (pos 0)) && list_all (varies_only ranges sum v) sum

abbrev pub is_told : List Range → ResolvedRef → ℕ → Bool
is_told ranges target v = not (is_many ranges v) || is_alone ranges v target.row || is_alone ranges v target.col

-- no two points have one target: the box is empty, or each variable with two values or more is alone in some subscript
unfoldable pub is_one_to_one : List Range → ResolvedNest → Bool
is_one_to_one ranges nest = is_box_empty ranges || list_all (λ entry. is_told ranges nest.target entry.0) (enumerate_from 0 ranges)

abbrev pub same_subscripts : ResolvedRef → ResolvedRef → Bool
same_subscripts a b = same_form a.row b.row && same_form a.col b.col

abbrev pub same_array : ResolvedRef → ResolvedRef → Bool
same_array a b = number_of a.array == number_of b.array

-- J12: the target's array is read with other subscripts, or is read at all where points share a target
abbrev pub reads_target : Bool → ResolvedNest → ResolvedRef → Bool
reads_target one_to_one nest ref = same_array ref nest.target && (not one_to_one || not (same_subscripts ref nest.target))

unfoldable pub reads_target_otherwise : Bool → ResolvedNest → Bool
reads_target_otherwise one_to_one nest = list_any (reads_target one_to_one nest) nest.reads

-- the subscript of a reference on its array's split axis
abbrev pub split_subscript : Checked → ResolvedRef → Sum
split_subscript job ref = if (array_of job ref).by_col then ref.col else ref.row

-- the reference lies where the target lies: the places are one, and so are the subscripts on the split axes
abbrev pub is_aligned : Checked → ResolvedRef → ResolvedRef → Bool
is_aligned job target ref =
    (array_of job ref).place == (array_of job target).place && same_form (split_subscript job ref) (split_subscript job target)

-- J14: a reference to a sparse array is not aligned
abbrev pub lies_elsewhere : Checked → ResolvedRef → ResolvedRef → Bool
lies_elsewhere job target ref = not (is_dense_ref job ref) && not (is_aligned job target ref)

unfoldable pub reads_elsewhere : Checked → ResolvedNest → Bool
reads_elsewhere job nest = list_any (lies_elsewhere job nest.target) nest.reads

-- a bound of a loop is past its limit
abbrev pub is_far : Range → Bool
is_far range = nat_lt MOST_BOUND (unsigned_abs range.lo) || nat_lt MOST_BOUND (unsigned_abs range.hi)

abbrev pub guard_is_wide : ResolvedGuard → Bool
guard_is_wide guard = not (is_within guard.left) || not (is_within guard.right)

abbrev pub ref_is_wide : ResolvedRef → Bool
ref_is_wide ref = not (is_within ref.row) || not (is_within ref.col)

-- J15, but for the terms: too many variables or guards, or a bound, a coefficient or a constant that is past its limit
unfoldable pub is_too_wide : List Range → ResolvedNest → Bool
is_too_wide ranges nest =
    nat_lt MOST_VARIABLES (length nest.spans) || nat_lt MOST_GUARDS (length nest.guards) || list_any is_far ranges || list_any guard_is_wide nest.guards || ref_is_wide nest.target
    || list_any ref_is_wide nest.reads
