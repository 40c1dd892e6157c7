-- Plans of the terms of a loaded job.
use Rattle.std.proofs.Common.{◌≡◌, ℕ, List, ◌∷◌, [], ◌++◌, refl, sym, subst, arith}
use Rattle.std.specs.List.{Contains}
use Rattle.std.proofs.lemmas.List.Elements.{All-contains, Contains-append_right}
use Rattle.bern_base.specs.declared.job.Checked.{Checked}
use Rattle.bern_base.specs.declared.job.Nest.{Nest}
use Rattle.bern_base.specs.declared.matrix.Matrix.{Matrix}
use Rattle.bern_base.specs.declared.stats.Stats.{Stats}
use Rattle.job_model.specs.Accepted.{IsNestOf}
use Rattle.job_plans.specs.Least.{CanPlan, measured}
use Rattle.job_plans.proofs.LawLemmas.{can_plan, measured_refs}
use Rattle.join_plan.specs.Tasks.{CanSchedule}
use Rattle.loop_query.proofs.MeasuredLemmas.{formats_tell_plans}
use Rattle.plan_courses.specs.JobCourses.{IsPlanOf}
use Rattle.term_model.specs.declared.plan.Plan.{Plan}
use Rattle.term_model.specs.declared.term.Term.{Term}
use Rattle.term_model.specs.Queries.{levels_by, plans_by}
use Rattle.term_model.specs.Terms.{terms_of}
use Rattle.whole_runs.proofs.RunLemmas.{plannable}
use Rattle.prog_cases.specs.Settings.{IsLoaded}

pub can_schedule : (job : Checked) (ms : List Matrix) (orders : List (List ℕ)) (stats : List Stats) (nest : Nest) (t : Term) → IsLoaded job ms orders stats → Contains job.nests nest → Contains (terms_of job nest.body) t →
    CanSchedule (record { vars = nest.vars; term = t; stats = stats })
can_schedule job ms orders stats nest t loaded nest_is term_is =
    subst (λ ss. CanSchedule (record { vars = nest.vars; term = t; stats = ss })) (sym loaded.measured_is)
    (All-contains (λ u. CanSchedule (record { vars = nest.vars; term = u; stats = measured job ms })) (terms_of job nest.body) t
    (All-contains (CanPlan job (measured job ms)) job.nests nest (can_plan job ms (plannable job ms orders loaded.can)) nest_is) term_is)

pub is_plan_of : (job : Checked) (ms : List Matrix) (orders : List (List ℕ)) (stats : List Stats) (nest : Nest) (t : Term) (plan : Plan) → IsLoaded job ms orders stats → Contains job.nests nest →
    Contains (terms_of job nest.body) t → Contains (plans_by (levels_by stats) nest t) plan → IsPlanOf job nest t plan
is_plan_of job ms orders stats nest t plan loaded nest_is term_is listed =
    let is : IsNestOf job nest = All-contains (IsNestOf job) job.nests nest loaded.can.accepted.nests nest_is in
    let refs = measured_refs job ms nest t (plannable job ms orders loaded.can) is term_is in record {
      accepted = loaded.can.accepted;
      nest_is = nest_is;
      term_is = term_is;
      plan_is = subst (λ ps. Contains {X = Plan} ps plan) (formats_tell_plans job (measured job ms) nest t (λ k d below. (refs k d below).measured))
          (subst (λ ss. Contains (plans_by (levels_by ss) nest t) plan) loaded.measured_is listed);
    }

-- the last item of a list is one of it
pub last_is : {X : Type 0} (xs ys : List X) (x : X) → xs ≡ ys ++ x ∷ [] → Contains xs x
last_is xs ys x is = subst (λ zs. Contains zs x) (sym is) (Contains-append_right ys (x ∷ []) x (0, omega arith, refl))
