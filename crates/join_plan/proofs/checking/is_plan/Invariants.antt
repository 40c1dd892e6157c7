-- The steps so far were ready in turn.
use Rattle.join_plan.specs.Tasks.{query_in}
use Rattle.join_plan.proofs.CheckLemmas.{IsPartWay}
use Rattle.join_plan.proofs.checking.is_plan.Given as goal

abbrev pub invariant-loop-step : goal.invariant-loop-step
invariant-loop-step l = IsPartWay (query_in (record { vars = l.nest.vars; term = l.term; stats = l.stats })) l.plan.steps l.step-index l.progress
