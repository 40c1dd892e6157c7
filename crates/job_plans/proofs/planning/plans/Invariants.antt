-- The nests so far are planned.
use Rattle.std.proofs.Common.{take}
use Rattle.std.specs.List.{AllZip}
use Rattle.job_plans.specs.Least.{AreScheduled}
use Rattle.job_plans.proofs.planning.plans.Given as goal

abbrev pub invariant-loop-nest : goal.invariant-loop-nest
invariant-loop-nest l = AllZip (AreScheduled l.job l.stats) (take l.nest-index l.nest-items) l.nests
