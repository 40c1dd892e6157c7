-- The ranks so far have sent all that the wait names.
use Rattle.std.proofs.Common.{◌≡◌, ℕ, ◌<◌, true, nat_le, length}
use Rattle.rank_scripts.specs.Scripts.{named}
use Rattle.rank_model.specs.Products.{scripts}
use Rattle.rank_node.specs.Waits.{letters_from}
use Rattle.rank_node.proofs.settle.has_requests.Given as goal

abbrev pub invariant-loop-from : goal.invariant-loop-from
invariant-loop-from g l = (q : ℕ) → q < l.from → nat_le (named (scripts g.run) l.rank 0 q) (length (letters_from l.given q)) ≡ true
