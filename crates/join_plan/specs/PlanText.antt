-- The printed text of plans: a line for each term of each nest with its cost, and after it a line for each step.
use Rattle.std.specs.Prelude.{ℕ, ◌+◌, ◌-◌, List, [], ◌∷◌, ◌++◌, Option, Some, None, codes, decimal, length, slice_get}
use Rattle.std.specs.List.{flat_map, range_with_len}
use Rattle.std.specs.Option.{option_map}
use Rattle.bern_base.specs.declared.axes.Axis.{Axis}
use Rattle.bern_base.specs.declared.axes.Axis.TheVariants as axis
use Rattle.bern_base.specs.declared.job.ArrayDecl.{ArrayDecl}
use Rattle.bern_base.specs.declared.job.Checked.{Checked}
use Rattle.bern_base.specs.declared.job.FormatDecl.{FormatDecl}
use Rattle.bern_base.specs.declared.job.Nest.{Nest}
use Rattle.bern_base.specs.declared.job.Ref.{Ref}
use Rattle.bern_base.specs.declared.job.Span.{Span}
use Rattle.format_model.specs.Levels.{levels_of}
use Rattle.term_model.specs.declared.plan.PlanStep.{PlanStep}
use Rattle.term_model.specs.declared.plan.PlanStep.TheVariants as step
use Rattle.term_model.specs.declared.plan.PlannedTerm.{PlannedTerm}
use Rattle.term_model.specs.declared.plan.Plans.{Plans}
use Rattle.term_model.specs.declared.term.Term.{Term}
use Rattle.term_model.specs.Plans.{SparseRef, bound_flat}

-- ---- names; what is not there has the empty one

abbrev pub span_name : Option Span → List ℕ
span_name None = []
span_name (Some span) = span.name

abbrev pub variable_name : Nest → ℕ → List ℕ
variable_name nest v = span_name (slice_get nest.vars v)

abbrev pub decl_name : Option ArrayDecl → List ℕ
decl_name None = []
decl_name (Some array) = array.name

abbrev pub array_name : Checked → Option Ref → List ℕ
array_name job None = []
array_name job (Some ref) = decl_name (slice_get job.arrays ref.array)

-- a sparse reference by its place among those of the term, from 1, and the name of its array
abbrev pub reference_name : Checked → Term → ℕ → List ℕ
reference_name job t r = decimal (r + 1) ++ codes ":" ++ array_name job (slice_get t.sparse r)

abbrev pub axis_word : Axis → List ℕ
axis_word axis.Row = codes "row"
axis_word axis.Col = codes "col"
axis_word axis.Both = []

abbrev pub axis_name : Option Axis → List ℕ
axis_name None = []
axis_name (Some a) = axis_word a

abbrev pub axis_in_format : Option FormatDecl → ℕ → List ℕ
axis_in_format None level = []
axis_in_format (Some format) level = axis_name (option_map (λ l. l.axis) (slice_get (levels_of format.shape) level))

abbrev pub axis_in_array : Checked → Option ArrayDecl → ℕ → List ℕ
axis_in_array job None level = []
axis_in_array job (Some array) level = axis_in_format (slice_get job.formats array.format) level

abbrev pub axis_of_ref : Checked → Option Ref → ℕ → List ℕ
axis_of_ref job None level = []
axis_of_ref job (Some ref) level = axis_in_array job (slice_get job.arrays ref.array) level

-- a level of a reference
abbrev pub level_name : Checked → Term → ℕ → ℕ → List ℕ
level_name job t r level = reference_name job t r ++ codes "." ++ axis_of_ref job (slice_get t.sparse r) level

-- ---- steps

-- the variables that a step over both axes binds, in order
abbrev pub flat_variables : List ℕ → Option Ref → List ℕ
flat_variables bound None = []
flat_variables bound (Some ref) = bound_flat bound (record { row = ref.row; col = ref.col; levels = [] })

abbrev pub variable_word : Nest → ℕ → List ℕ
variable_word nest v = codes " " ++ variable_name nest v

-- a step's line
abbrev pub step_line : Checked → Nest → Term → List ℕ → PlanStep → List ℕ
step_line job nest t bound (step.Range v) = codes "range" ++ variable_word nest v ++ codes "\n"
step_line job nest t bound (step.Drive r level v) = codes "drive " ++ level_name job t r level ++ variable_word nest v ++ codes "\n"
step_line job nest t bound (step.DriveFlat r) =
    codes "flat " ++ reference_name job t r ++ flat_map (variable_word nest) (flat_variables bound (slice_get t.sparse r)) ++ codes "\n"
step_line job nest t bound (step.Merge left left_level right right_level v) =
    codes "merge " ++ level_name job t left left_level ++ codes " " ++ level_name job t right right_level
    ++ variable_word nest v ++ codes "\n"

-- what is bound after it
abbrev pub bound_after : Term → List ℕ → PlanStep → List ℕ
bound_after t bound (step.Range v) = v ∷ bound
bound_after t bound (step.Drive r level v) = v ∷ bound
bound_after t bound (step.DriveFlat r) = flat_variables bound (slice_get t.sparse r) ++ bound
bound_after t bound (step.Merge left left_level right right_level v) = v ∷ bound

abbrev pub steps_text : Checked → Nest → Term → List ℕ → List PlanStep → List ℕ
steps_text job nest t bound [] = []
steps_text job nest t bound (s ∷ steps) = step_line job nest t bound s ++ steps_text job nest t (bound_after t bound s) steps

-- ---- terms and nests, both numbered from 1

abbrev pub term_line : ℕ → ℕ → ℕ → List ℕ
term_line nest term cost = codes "nest " ++ decimal nest ++ codes " term " ++ decimal term ++ codes " cost " ++ decimal cost ++ codes "\n"

-- variables that the nest does not have count as bound
abbrev pub unused : Nest → List ℕ
unused nest = range_with_len (length nest.vars) (4 - length nest.vars)

abbrev pub term_text : Checked → ℕ → Nest → ℕ → PlannedTerm → List ℕ
term_text job number nest place planned =
    term_line (number + 1) (place + 1) planned.cost ++ steps_text job nest planned.term (unused nest) planned.plan.steps

abbrev pub planned_text : Checked → ℕ → Nest → ℕ → Option PlannedTerm → List ℕ
planned_text job number nest place None = []
planned_text job number nest place (Some planned) = term_text job number nest place planned

abbrev pub terms_text : Checked → ℕ → Nest → List PlannedTerm → List ℕ
terms_text job number nest terms =
    flat_map (λ place. planned_text job number nest place (slice_get terms place)) (range_with_len 0 (length terms))

abbrev pub nest_text : Checked → ℕ → Option Nest → Option (List PlannedTerm) → List ℕ
nest_text job number None terms = []
nest_text job number (Some nest) None = []
nest_text job number (Some nest) (Some terms) = terms_text job number nest terms

-- that of the nest of this number
abbrev pub numbered_text : Checked → Plans → ℕ → List ℕ
numbered_text job plans number = nest_text job number (slice_get job.nests number) (slice_get plans.nests number)

abbrev pub plan_text : Checked → Plans → List ℕ
plan_text job plans = flat_map (numbered_text job plans) (range_with_len 0 (length job.nests))
