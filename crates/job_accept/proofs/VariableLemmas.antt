-- Each nest of an accepted job has a variable: the grammar has no others.
use Rattle.std.proofs.Common.{◌≡◌, ◌≢◌, ℕ, ◌<◌, List, [], ◌∷◌, length, map, refl, arith}
use Rattle.std.specs.List.{All}
use Rattle.std.proofs.lemmas.List.{length-map}
use Rattle.std.proofs.lemmas.List.Elements.{All-append, All-cons, All-nil}
use Rattle.bern_base.specs.declared.job.Nest.{Nest}
use Rattle.bern_base.specs.declared.raw.Form.{Form}
use Rattle.bern_base.specs.declared.raw.Form.TheVariants as form
use Rattle.bern_base.specs.declared.raw.RawNest.{RawNest}
use Rattle.bern_base.specs.declared.raw.RawVar.{RawVar}
use Rattle.job_text.specs.Forms.{IsForm}
use Rattle.job_rules.specs.After.{after, checked_nest, checked_span}
use Rattle.job_rules.specs.Looked.{scope_of}
use Rattle.job_rules.specs.State.{State}
use Rattle.job_accept.proofs.JobLemmas.{job_holds}
use Rattle.job_accept.specs.Variables.{HasVariable, NestsHaveVariables}

abbrev FormHas : Form → Type 0
FormHas (form.Nest nest) = 0 < length nest.vars
FormHas other = Unit {0}

some_vars : (vars : List RawVar) → vars ≢ [] → 0 < length vars
some_vars [] some = absurd (some refl)
some_vars (var ∷ vars) some = omega arith

form_has : (f : Form) (text : List ℕ) → IsForm f text → FormHas f
form_has (form.Nest nest) text is = some_vars nest.vars is.2.some_vars
form_has (form.Format name levels) text is = tt
form_has (form.Extent name size) text is = tt
form_has (form.Place name extent kind) text is = tt
form_has (form.Array name extents format axis place file) text is = tt
form_has (form.Print name) text is = tt

-- one line more
after_has : (s : State) (number : ℕ) (f : Form) → FormHas f → All HasVariable s.job.nests → All HasVariable (after s number f).job.nests
after_has s number (form.Nest nest) has all =
    let own : Nest = checked_nest (scope_of s nest) number nest in
    All-append HasVariable s.job.nests (own ∷ []) all (All-cons HasVariable own [] (omega (arith, has, length-map nest.vars (checked_span (scope_of s nest)))) (All-nil HasVariable))
after_has s number (form.Format name levels) has all = all
after_has s number (form.Extent name size) has all = all
after_has s number (form.Place name extent kind) has all = all
after_has s number (form.Array name extents format axis place file) has all = all
after_has s number (form.Print name) has all = all

pub nests_have_variables : NestsHaveVariables
nests_have_variables = job_holds FormHas form_has (λ job. All HasVariable job.nests) after_has (All-nil HasVariable)
