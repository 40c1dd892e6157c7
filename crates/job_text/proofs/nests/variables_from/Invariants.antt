-- The variables so far, followed by what is read from here on, are what is read from the start.
use Rattle.std.proofs.Common.{ℕ, ◌<◌, ◌≤◌, length}
use Rattle.job_text.specs.NestReading.{span_at, name_at, vars_from}
use Rattle.job_text.proofs.ListLemmas.{Carries}
use Rattle.job_text.proofs.nests.variables_from.Given as goal

abbrev pub invariant-loop-vars : goal.invariant-loop-vars
invariant-loop-vars l = record {
  carries : (n : ℕ) → length l.fn.tokens < n → Carries span_at name_at l.vars l.name l.rest (vars_from n l.fn.first l.fn.tokens);
  within : length l.rest ≤ length l.fn.tokens;
}

abbrev pub decreases-loop-vars : goal.decreases-loop-vars
decreases-loop-vars l = length l.rest
