-- The ranks so far have sent the values that they owe.
use Rattle.std.proofs.Common.{◌≡◌, ℕ, ◌<◌, true, suc}
use Rattle.rank_scripts.specs.Rounds.{round_given}
use Rattle.turn_model.specs.Runs.{schedule}
use Rattle.turn_model.specs.Schedules.{rounds}
use Rattle.turn_node.specs.Progresses.{given_by}
use Rattle.turn_node.proofs.progress.Progress.has_values.Given as goal

abbrev pub invariant-loop-from : goal.invariant-loop-from
invariant-loop-from g l = (q : ℕ) → q < l.from → round_given (rounds (schedule g.run)) l.self.rank (given_by g.run l.self.rank l.self.taken) (suc l.turn) q ≡ true
