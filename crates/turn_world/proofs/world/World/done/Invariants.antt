-- All speak of one run.
use Rattle.std.proofs.Common.{◌≡◌, ◌<◌, ℕ, true}
use Rattle.rank_scripts.specs.Acts.{at_end}
use Rattle.turn_world.specs.Worlds.{node_in}
use Rattle.turn_world.proofs.world.World.done.Given as goal

abbrev pub ghost-is_done : goal.ghost-is_done
ghost-is_done g a = g.run

abbrev pub invariant-loop-rank : goal.invariant-loop-rank
invariant-loop-rank g l = (r : ℕ) → r < l.rank → at_end (node_in g.run l.self.nodes r).todo ≡ true
