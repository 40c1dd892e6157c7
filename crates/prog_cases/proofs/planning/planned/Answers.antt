use Rattle.std.proofs.Common.{subst}
use Rattle.std.specs.List.{Contains}
use Rattle.term_model.specs.declared.term.Term.{Term}
use Rattle.term_model.specs.Terms.{terms_of}
use Rattle.prog_cases.proofs.PlanLemmas.{can_schedule, is_plan_of, last_is}
use Rattle.prog_cases.proofs.planning.planned.Goals as goal

pub is_plan-requires : goal.is_plan-requires
is_plan-requires c =
    let l = c.args.loaded.now in
    let listed : Contains (terms_of l.job c.args.nest.now.body) c.in-Some.term =
    subst (λ ts. Contains {X = Term} ts c.in-Some.term) c.in_ok-found.ensures (last_is c.in_ok-found.found _ c.in-Some.term c.in-Some.ensures) in
    can_schedule l.job l.files.matrices l.files.orders l.stats c.args.nest.now c.in-Some.term c.requires.loaded c.requires.nest listed

pub returns-then-is_plan : goal.returns-then-is_plan
returns-then-is_plan c =
    let l = c.args.loaded.now in
    let listed : Contains (terms_of l.job c.args.nest.now.body) c.in-Some.term =
    subst (λ ts. Contains {X = Term} ts c.in-Some.term) c.in_ok-found.ensures (last_is c.in_ok-found.found _ c.in-Some.term c.in-Some.ensures) in
    is_plan_of l.job l.files.matrices l.files.orders l.stats c.args.nest.now c.in-Some.term _ c.requires.loaded c.requires.nest listed (c.is_plan.ensures c.if-is_plan.true)
