use Rattle.std.proofs.Common.{◌∙◌, sym, subst}
use Rattle.term_model.specs.Queries.{levels_by, query}
use Rattle.join_plan.specs.Costs.{measures}
use Rattle.join_plan.specs.Least.{IsFirstOfLeast}
use Rattle.join_plan.proofs.scheduling.schedule.Goals as goal

pub returns-clause-least : goal.returns-clause-least
returns-clause-least c =
    subst (λ steps. IsFirstOfLeast (query (levels_by c.args.stats.now) c.args.nest.now c.args.term.now) (measures c.args.nest.now.vars c.args.term.now c.args.stats.now) steps c.least-found.result.cost)
    (sym (c.in_ok-steps.ensures ∙ c.as_slice.ensures)) c.least-found.ensures.least
