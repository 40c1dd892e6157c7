-- A plan that is tried step by step.
use Rattle.std.proofs.Common.{◌≡◌, ℕ, ◌+◌, ◌<◌, Bool, true, List, [], ◌∷◌, length, drop, get_or, sym, subst}
use Rattle.std.specs.List.{Contains}
use Rattle.std.proofs.lemmas.List.{drop_more}
use Rattle.bern_base.specs.declared.job.Nest.{Nest}
use Rattle.bern_base.specs.declared.stats.Stats.{Stats}
use Rattle.term_model.specs.declared.plan.Plan.{Plan}
use Rattle.term_model.specs.declared.plan.PlanStep.{PlanStep}
use Rattle.term_model.specs.declared.term.Term.{Term}
use Rattle.term_model.specs.Plans.{IsPlan, Known, Query, is_bound, is_ready, next, start}
use Rattle.term_model.specs.Queries.{levels_by, plan_of, plans_by, query}
use Rattle.loop_query.proofs.FreeLemmas.{contains_map}
use Rattle.loop_query.proofs.PlanLemmas.{ready_plans_are_listed}
use Rattle.join_plan.specs.declared.progress.Progress.{Progress}
use Rattle.join_plan.specs.Progress.{Knows}

-- so many steps were ready in turn: what is known now, and if the steps that are left are a plan from here, all are one from the start
pub record IsPartWay (q : Query) (steps : List PlanStep) (taken : ℕ) (progress : Progress) : Type 0 where
  pub known : Known
  pub knows : Knows known progress
  pub rest : IsPlan q known (drop taken steps) → IsPlan q (start q) steps

pub at_start : (q : Query) (steps : List PlanStep) (p : Progress) → Knows (start q) p → IsPartWay q steps 0 p
at_start q steps p knows = record { known = start q; knows = knows; rest = λ is. is }

pub one_further : (q : Query) (steps : List PlanStep) (taken : ℕ) (items : List PlanStep) (d : PlanStep) (before after : Progress) →
    (way : IsPartWay q steps taken before) → items ≡ steps → taken < length items →
    is_ready q way.known (get_or items taken d) ≡ true → Knows (next q way.known (get_or items taken d)) after → IsPartWay q steps (taken + 1) after
one_further q steps taken items d before after way are below ready knows = record {
  known = next q way.known (get_or items taken d);
  knows = knows;
  rest = λ plan. way.rest (subst (λ ss. IsPlan q way.known (drop taken ss)) are
      (subst (IsPlan q way.known) (sym (drop_more items taken d below)) (ready, subst (λ ss. IsPlan q (next q way.known (get_or items taken d)) (drop (taken + 1) ss)) (sym are) plan)));
}

pub at_end : (q : Query) (steps : List PlanStep) (taken : ℕ) (p : Progress) → (way : IsPartWay q steps taken p) → drop taken steps ≡ [] → is_bound way.known ≡ true →
    IsPlan q (start q) steps
at_end q steps taken p way none bound = way.rest (subst (IsPlan q way.known) (sym none) bound)

pub listed : (nest : Nest) (t : Term) (stats : List Stats) (steps : List PlanStep) → IsPlan (query (levels_by stats) nest t) (start (query (levels_by stats) nest t)) steps →
    Contains (plans_by (levels_by stats) nest t) (plan_of steps)
listed nest t stats steps is = contains_map plan_of _ steps (ready_plans_are_listed (query (levels_by stats) nest t) steps is)
