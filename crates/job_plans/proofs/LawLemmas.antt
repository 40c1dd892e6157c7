-- Accepted jobs can be planned, and plans of least cost are plans by the formats of the job.
use Rattle.std.proofs.Common.{◌≡◌, ◌∙◌, ℕ, suc, ◌<◌, List, [], ◌∷◌, length, get_or, Some, slice_get, refl, sym, ap, subst, arith}
use Rattle.std.specs.List.{All, AllZip, Contains, range_with_len}
use Rattle.std.specs.Option.{option_map}
use Rattle.std.proofs.Math.Nat.{zero-add}
use Rattle.std.proofs.lemmas.List.Elements.{All-contains, Contains-append_right, Contains-get_or}
use Rattle.std.proofs.lemmas.List.FromFn.{get_or-range_with_len, length-range_with_len}
use Rattle.std.proofs.lemmas.Option.{slice_get-get_or, slice_get-map, slice_get_within}
use Rattle.bern_base.specs.declared.job.ArrayDecl.{ArrayDecl}
use Rattle.bern_base.specs.declared.job.Checked.{Checked}
use Rattle.bern_base.specs.declared.job.FormatDecl.{FormatDecl}
use Rattle.bern_base.specs.declared.job.Nest.{Nest}
use Rattle.bern_base.specs.declared.job.Ref.{Ref}
use Rattle.bern_base.specs.declared.matrix.Matrix.{Matrix}
use Rattle.format_model.specs.Estimates.{stats_of}
use Rattle.job_model.specs.Accepted.{IsArrayOf, IsNestOf, IsReadOf}
use Rattle.join_plan.specs.Laws.{HasOuterAxis, IsMeasuredWithin}
use Rattle.join_plan.proofs.MeasuredLemmas.{can_schedule}
use Rattle.loop_query.proofs.FreeLemmas.{contains_map}
use Rattle.loop_query.proofs.MeasuredLemmas.{formats_tell_plans}
use Rattle.loop_query.proofs.ToldLemmas.{terms_read_the_body}
use Rattle.term_model.specs.declared.plan.Plan.{Plan}
use Rattle.term_model.specs.declared.plan.PlannedTerm.{PlannedTerm}
use Rattle.term_model.specs.declared.plan.PlanStep.{PlanStep}
use Rattle.term_model.specs.declared.plan.Plans.{Plans}
use Rattle.term_model.specs.declared.term.Term.{Term}
use Rattle.term_model.specs.Plans.{plans}
use Rattle.term_model.specs.Queries.{ArePlanned, ArePlansOf, levels_by, plan_of, plans_of, query}
use Rattle.term_model.specs.Terms.{references_of, terms_of}
use Rattle.job_plans.specs.Laws.{IsPlannable, IsWithin}
use Rattle.job_plans.specs.Least.{AreLeast, AreScheduled, CanPlan, IsScheduled, measured, measured_as, measured_at, measured_in}
use Rattle.job_plans.proofs.PlanLemmas.{all_there}

-- what is measured of an array of the job
measured_is : (job : Checked) (ms : List Matrix) (number : ℕ) (array : ArrayDecl) (format : FormatDecl) (m : Matrix) → slice_get job.arrays number ≡ Some array → slice_get job.formats array.format ≡ Some format →
    slice_get ms number ≡ Some m → slice_get (measured job ms) number ≡ Some (record { levels = stats_of format.shape m })
measured_is job ms number array format m array_is format_is matrix_is =
    let inside : number < length job.arrays = slice_get_within job.arrays number array array_is in
    let numbered : slice_get (range_with_len 0 (length job.arrays)) number ≡ Some number =
    slice_get-get_or (range_with_len 0 (length job.arrays)) number 0 (omega (arith, inside, length-range_with_len 0 (length job.arrays)))
    ∙ ap Some (get_or-range_with_len 0 (length job.arrays) number 0 inside ∙ zero-add number) in
    slice_get-map (measured_at job ms) (range_with_len 0 (length job.arrays)) number
    ∙ ap (option_map (measured_at job ms)) numbered
    ∙ ap (λ a. Some (measured_as job.formats a (slice_get ms number))) array_is
    ∙ ap (λ m. Some (measured_as job.formats (Some array) m)) matrix_is
    ∙ ap (λ f. Some (measured_in f m)) format_is

-- each reference that a nest may read is of an array that is measured within the limits
measured_ref : (job : Checked) (ms : List Matrix) (nest : Nest) (ref : Ref) → IsPlannable job ms → IsReadOf job nest ref → IsMeasuredWithin job (measured job ms) ref.array
measured_ref job ms nest ref can read =
    let (array, element) = read.element in
    let of : IsArrayOf job array = all_there (IsArrayOf job) job.arrays ref.array array can.accepted.arrays element.named in
    let (format, format_is, fits) = of.format in
    let inside : ref.array < length job.arrays = slice_get_within job.arrays ref.array array element.named in
    let m : Matrix = get_or ms ref.array (record { rows = 0; cols = 0; entries = [] }) in
    let matrix_is : slice_get ms ref.array ≡ Some m = slice_get-get_or ms ref.array (record { rows = 0; cols = 0; entries = [] }) (omega (arith, inside, can.count)) in
    let within : IsWithin m = all_there IsWithin ms ref.array m can.within matrix_is in
    record {
      measured = record {
        array = array;
        format = format;
        matrix = m;
        array_is = element.named;
        format_is = format_is;
        stats_is = measured_is job ms ref.array array format m element.named format_is matrix_is;
      };
      axis = all_there (λ f. HasOuterAxis f.shape) job.formats array.format format can.axes format_is;
      rows = within.rows;
      cols = within.cols;
      entries = within.entries;
    }

-- and so are the sparse references of a term
pub measured_refs : (job : Checked) (ms : List Matrix) (nest : Nest) (t : Term) → IsPlannable job ms → IsNestOf job nest → Contains (terms_of job nest.body) t → All (λ ref. IsMeasuredWithin job (measured job ms) ref.array) t.sparse
measured_refs job ms nest t can is listed =
    let reads : All (IsReadOf job nest) (references_of t) = All-contains (λ u. All (IsReadOf job nest) (references_of u)) (terms_of job nest.body) t (terms_read_the_body job nest is) listed in
    λ k d below. measured_ref job ms nest (get_or t.sparse k d) can
    (All-contains (IsReadOf job nest) (references_of t) (get_or t.sparse k d) reads (Contains-append_right t.dense t.sparse (get_or t.sparse k d) (Contains-get_or t.sparse k d below)))

pub can_plan : (job : Checked) (ms : List Matrix) → IsPlannable job ms → All (CanPlan job (measured job ms)) job.nests
can_plan job ms can = λ k d below i e under.
    let nest : Nest = get_or job.nests k d in
    let t : Term = get_or (terms_of job nest.body) i e in
    let is : IsNestOf job nest = can.accepted.nests k d below in
    let listed : Contains (terms_of job nest.body) t = Contains-get_or (terms_of job nest.body) i e under in
    can_schedule job nest t (measured job ms) can.accepted is listed (measured_refs job ms nest t can is listed)

-- ---- plans by formats

planned_term : (job : Checked) (ms : List Matrix) (nest : Nest) (p : PlannedTerm) → IsPlannable job ms → IsNestOf job nest → Contains (terms_of job nest.body) p.term → IsScheduled (measured job ms) nest p →
    Contains (plans_of job nest p.term) p.plan
planned_term job ms nest p can is listed least =
    let q = query (levels_by (measured job ms)) nest p.term in
    let here : Contains (plans q) p.plan.steps =
    subst (λ ps. Contains {X = List PlanStep} ps p.plan.steps) (sym least.listed) (Contains-append_right least.before (p.plan.steps ∷ least.later) p.plan.steps (0, omega arith, refl)) in
    let refs = measured_refs job ms nest p.term can is listed in
    subst (λ ps. Contains {X = Plan} ps p.plan) (formats_tell_plans job (measured job ms) nest p.term (λ k d below. (refs k d below).measured))
    (contains_map plan_of (plans q) p.plan.steps here)

planned_nest : (job : Checked) (ms : List Matrix) (nest : Nest) (planned : List PlannedTerm) → IsPlannable job ms → IsNestOf job nest → AreScheduled job (measured job ms) nest planned → ArePlanned job nest planned
planned_nest job ms nest planned can is so = record {
  terms = so.terms;
  plans = λ k d below.
      planned_term job ms nest (get_or planned k d) can is
      (subst (λ ts. Contains {X = Term} ts (get_or planned k d).term) so.terms (contains_map (λ p. p.term) planned (get_or planned k d) (Contains-get_or planned k d below)))
      (so.least k d below);
}

zip_map : {A B : Type 0} (P : A → Type 0) (R S : A → B → Type 0) → ((x : A) (y : B) → P x → R x y → S x y) → (xs : List A) (ys : List B) → All P xs → AllZip R xs ys → AllZip S xs ys
zip_map P R S each [] [] all zip = tt
zip_map P R S each [] (y ∷ ys) all zip = absurd zip
zip_map P R S each (x ∷ xs) [] all zip = absurd zip
zip_map P R S each (x ∷ xs) (y ∷ ys) all zip = (each x y (all 0 x (omega arith)) zip.0, zip_map P R S each xs ys (λ k d below. all (suc k) d (omega (arith, below))) zip.1)

pub are_plans : (job : Checked) (ms : List Matrix) (plans : Plans) → IsPlannable job ms → AreLeast job (measured job ms) plans → ArePlansOf job plans
are_plans job ms plans can least =
    zip_map (IsNestOf job) (AreScheduled job (measured job ms)) (ArePlanned job) (λ nest planned is so. planned_nest job ms nest planned can is so) job.nests plans.nests can.accepted.nests least
