-- What each line of a job's text says of its format holds of the formats of an accepted job.
use Rattle.std.proofs.Common.{ℕ, List, [], ◌∷◌}
use Rattle.std.specs.List.{All}
use Rattle.std.proofs.lemmas.List.Elements.{All-append, All-cons, All-nil}
use Rattle.bern_base.specs.declared.job.Checked.{Checked}
use Rattle.bern_base.specs.declared.job.FormatDecl.{FormatDecl}
use Rattle.bern_base.specs.declared.raw.Form.{Form}
use Rattle.bern_base.specs.declared.raw.Form.TheVariants as form
use Rattle.bern_base.specs.declared.raw.RawShape.{RawShape}
use Rattle.bern_base.specs.declared.shape.Shape.{Shape}
use Rattle.job_text.specs.Forms.{AreLevels, IsForm}
use Rattle.job_rules.specs.After.{after, shape_of}
use Rattle.job_rules.specs.State.{State}
use Rattle.job_accept.specs.Front.{AcceptsBytes}
use Rattle.job_accept.proofs.JobLemmas.{job_holds}

module _ (P : Shape → Type 0) (each : (levels : RawShape) (words : List (List ℕ)) → AreLevels levels words → P (shape_of levels)) where
  -- of a line that declares a format
  abbrev FormHas : Form → Type 0
  FormHas (form.Format name levels) = P (shape_of levels)
  FormHas other = Unit {0}

  form_has : (f : Form) (text : List ℕ) → IsForm f text → FormHas f
  form_has (form.Format name levels) text is = each levels is.0 is.3
  form_has (form.Extent name size) text is = tt
  form_has (form.Place name extent kind) text is = tt
  form_has (form.Array name extents format axis place file) text is = tt
  form_has (form.Nest nest) text is = tt
  form_has (form.Print name) text is = tt

  abbrev FormatHas : FormatDecl → Type 0
  FormatHas format = P format.shape

  -- one line more
  after_has : (s : State) (number : ℕ) (f : Form) → FormHas f → All FormatHas s.job.formats → All FormatHas (after s number f).job.formats
  after_has s number (form.Format name levels) has all =
      All-append FormatHas s.job.formats (record { name = name; shape = shape_of levels } ∷ [])
      all (All-cons FormatHas (record { name = name; shape = shape_of levels }) [] has (All-nil FormatHas))
  after_has s number (form.Extent name size) has all = all
  after_has s number (form.Place name extent kind) has all = all
  after_has s number (form.Array name extents format axis place file) has all = all
  after_has s number (form.Nest nest) has all = all
  after_has s number (form.Print name) has all = all

  pub formats_have : (bytes : List ℕ) (job : Checked) → AcceptsBytes bytes job → All FormatHas job.formats
  formats_have = job_holds FormHas form_has (λ job. All FormatHas job.formats) after_has (All-nil FormatHas)
