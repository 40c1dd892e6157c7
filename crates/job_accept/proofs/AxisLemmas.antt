-- The outer levels of the formats of an accepted job are on rows or on columns, and so are the axes along which its arrays are split: the
-- grammar has no others.
use Rattle.std.proofs.Common.{ℕ, List, [], ◌∷◌, length}
use Rattle.std.specs.List.{All}
use Rattle.std.proofs.lemmas.List.Elements.{All-append, All-cons, All-nil}
use Rattle.bern_base.specs.declared.axes.Axis.{Axis}
use Rattle.bern_base.specs.declared.axes.Axis.TheVariants as axis
use Rattle.bern_base.specs.declared.job.ArrayDecl.{ArrayDecl}
use Rattle.bern_base.specs.declared.raw.Form.{Form}
use Rattle.bern_base.specs.declared.raw.Form.TheVariants as form
use Rattle.bern_base.specs.declared.raw.RawShape.{RawShape}
use Rattle.bern_base.specs.declared.raw.RawShape.TheVariants as raw
use Rattle.job_text.specs.Forms.{AreLevels, IsAxis, IsForm}
use Rattle.job_rules.specs.After.{after, shape_of}
use Rattle.job_rules.specs.State.{State}
use Rattle.job_accept.proofs.FormatLemmas.{formats_have}
use Rattle.job_accept.proofs.JobLemmas.{job_holds}
use Rattle.job_accept.specs.Axes.{HasOuterAxis, IsOneAxis, OuterAxesAreOne, SplitAxesAreOne}

axis_one : (a : Axis) (word : List ℕ) → IsAxis a word → IsOneAxis a
axis_one axis.Row word is = tt
axis_one axis.Col word is = tt
axis_one axis.Both word is = is

levels_one : (levels : RawShape) (words : List (List ℕ)) → AreLevels levels words → HasOuterAxis (shape_of levels)
levels_one (raw.DenseDense outer) words is = axis_one outer is.0 is.3
levels_one (raw.DensePacked outer) words is = axis_one outer is.0 is.3
levels_one (raw.PackedPacked outer) words is = axis_one outer is.0 is.3
levels_one raw.DenseOne words is = tt
levels_one raw.PackedOne words is = tt
levels_one raw.ListOne words is = tt
levels_one raw.ListTwo words is = tt
levels_one raw.Jagged words is = tt
levels_one (raw.Diagonal offsets) words is = tt
levels_one (raw.Permute file) words is = tt

pub axes_one : OuterAxesAreOne
axes_one bytes job accepts = formats_have HasOuterAxis levels_one bytes job accepts

-- ---- arrays

abbrev FormHas : Form → Type 0
FormHas (form.Array name extents format axis place file) = IsOneAxis axis
FormHas other = Unit {0}

form_has : (f : Form) (text : List ℕ) → IsForm f text → FormHas f
form_has (form.Array name extents format axis place file) text is = axis_one axis is.1 is.7
form_has (form.Extent name size) text is = tt
form_has (form.Place name extent kind) text is = tt
form_has (form.Format name levels) text is = tt
form_has (form.Nest nest) text is = tt
form_has (form.Print name) text is = tt

abbrev HasOneAxis : ArrayDecl → Type 0
HasOneAxis array = IsOneAxis array.axis

after_has : (s : State) (number : ℕ) (f : Form) → FormHas f → All HasOneAxis s.job.arrays → All HasOneAxis (after s number f).job.arrays
after_has s number (form.Array name extents format axis place file) has all = All-append HasOneAxis s.job.arrays _ all (All-cons HasOneAxis _ [] has (All-nil HasOneAxis))
after_has s number (form.Extent name size) has all = all
after_has s number (form.Place name extent kind) has all = all
after_has s number (form.Format name levels) has all = all
after_has s number (form.Nest nest) has all = all
after_has s number (form.Print name) has all = all

pub splits_one : SplitAxesAreOne
splits_one = job_holds FormHas form_has (λ job. All HasOneAxis job.arrays) after_has (All-nil HasOneAxis)
