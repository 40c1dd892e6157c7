use Rattle.std.proofs.Common.{◌≡◌, ◌≤◌, true, take}
use Rattle.std.specs.List.{list_all}
use Rattle.job_model.specs.Points.{holds}
use Rattle.split_exec.proofs.boxes.some_fails.Given as goal

abbrev pub invariant-guards : goal.invariant-guards
invariant-guards l = 4 ≤ l.depth → list_all (holds l.point) (take l.at l.guards) ≡ true
