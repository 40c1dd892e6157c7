-- The guards so far, followed by what is read from here on, are what is read from the start.
use Rattle.std.proofs.Common.{ℕ, ◌<◌, ◌≤◌, length}
use Rattle.job_text.specs.NestReading.{guard_at, comma_at, guards_from}
use Rattle.job_text.proofs.ListLemmas.{Carries}
use Rattle.job_text.proofs.nests.guards_from.Given as goal

abbrev pub invariant-loop-guards : goal.invariant-loop-guards
invariant-loop-guards l = record {
  carries : (n : ℕ) → length l.fn.tokens < n → Carries guard_at comma_at l.guards tt l.rest (guards_from n l.fn.tokens);
  within : length l.rest ≤ length l.fn.tokens;
}

abbrev pub decreases-loop-guards : goal.decreases-loop-guards
decreases-loop-guards l = length l.rest
