-- The ranks so far have sent all that the wait names.
use Rattle.std.proofs.Common.{◌≡◌, ℕ, ◌<◌, true, nat_le, length}
use Rattle.rank_scripts.specs.Scripts.{named}
use Rattle.turn_model.specs.Runs.{scripts}
use Rattle.turn_node.specs.Progresses.{given_by}
use Rattle.turn_node.proofs.progress.Progress.has_requests.Given as goal

abbrev pub invariant-loop-from : goal.invariant-loop-from
invariant-loop-from g l = (q : ℕ) → q < l.from → nat_le (named (scripts g.run) l.self.rank 0 q) (length (given_by g.run l.self.rank l.self.taken q)) ≡ true
