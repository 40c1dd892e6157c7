-- Each place of an accepted job was declared after some of its arrays: as many as stood before its line.
use Rattle.std.proofs.Common.{◌≡◌, ℕ, ◌+◌, ◌≤◌, List, [], ◌∷◌, ◌++◌, length, arith}
use Rattle.std.specs.List.{All}
use Rattle.std.proofs.lemmas.List.{length-append}
use Rattle.std.proofs.lemmas.List.Elements.{All-append, All-cons, All-nil}
use Rattle.bern_base.specs.declared.job.ArrayDecl.{ArrayDecl}
use Rattle.bern_base.specs.declared.job.PlaceDecl.{PlaceDecl}
use Rattle.bern_base.specs.declared.raw.Form.{Form}
use Rattle.bern_base.specs.declared.raw.Form.TheVariants as form
use Rattle.job_text.specs.Forms.{IsForm}
use Rattle.job_rules.specs.After.{after}
use Rattle.job_rules.specs.State.{State}
use Rattle.job_accept.proofs.JobLemmas.{job_holds}
use Rattle.job_accept.specs.Places.{PlacesStandAmongArrays, StandAmongArrays}

abbrev FormHas : Form → Type 0
FormHas form = Unit {0}

form_has : (f : Form) (text : List ℕ) → IsForm f text → FormHas f
form_has f text is = tt

-- one array more
more : (places : List PlaceDecl) (arrays : List ArrayDecl) (array : ArrayDecl) → All (λ p. p.arrays_before ≤ length arrays) places → All (λ p. p.arrays_before ≤ length (arrays ++ array ∷ [])) places
more places arrays array all k d low =
    let here = all k d low in
    let long : length (arrays ++ array ∷ []) ≡ length arrays + 1 = length-append arrays (array ∷ []) in omega (arith, here, long)

-- one line more
after_has : (s : State) (number : ℕ) (f : Form) → FormHas f → StandAmongArrays s.job → StandAmongArrays (after s number f).job
after_has s number (form.Place name extent kind) has all =
    All-append (λ p. p.arrays_before ≤ length s.job.arrays) s.job.places _ all (All-cons (λ p. p.arrays_before ≤ length s.job.arrays) _ [] (omega arith) (All-nil (λ p. p.arrays_before ≤ length s.job.arrays)))
after_has s number (form.Array name extents format axis place file) has all = more s.job.places s.job.arrays _ all
after_has s number (form.Extent name size) has all = all
after_has s number (form.Format name levels) has all = all
after_has s number (form.Nest nest) has all = all
after_has s number (form.Print name) has all = all

pub places_among : PlacesStandAmongArrays
places_among = job_holds FormHas form_has StandAmongArrays after_has (All-nil (λ p. p.arrays_before ≤ 0))
