-- The terms so far are planned, and the others are left.
use Rattle.std.proofs.Common.{◌≡◌, length}
use Rattle.std.specs.Vec.Iter.{into_iter_items, into_iter_len}
use Rattle.job_plans.proofs.PlanLemmas.{ArePlannedSo}
use Rattle.job_plans.proofs.planning.scheduled.Given as goal

abbrev pub invariant-loop-term : goal.invariant-loop-term
invariant-loop-term l = ArePlannedSo l.job l.stats l.nest l.planned (into_iter_items l.term-iterator) × (into_iter_len l.term-iterator ≡ length (into_iter_items l.term-iterator))
