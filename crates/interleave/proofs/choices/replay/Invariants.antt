-- All speak of one run.
use Rattle.std.proofs.Common.{◌≡◌, ◌+◌}
use Rattle.rank_scripts.specs.Scripts.{total}
use Rattle.rank_scripts.specs.Worlds.{left}
use Rattle.rank_model.specs.Products.{scripts}
use Rattle.interleave.specs.Worlds.{world_in, IsFit}
use Rattle.interleave.proofs.choices.replay.Given as goal

abbrev pub ghost-done : goal.ghost-done
ghost-done g a = g.run

abbrev pub ghost-next_event : goal.ghost-next_event
ghost-next_event g a = g.run

abbrev pub invariant-events : goal.invariant-events
invariant-events g l = record {
  fit : IsFit g.run l.world.nodes l.world.boxes;
  counted : l.count + left (scripts g.run) (world_in g.run l.world.nodes l.world.boxes) ≡ total (scripts g.run);
}

abbrev pub decreases-events : goal.decreases-events
decreases-events g l = left (scripts g.run) (world_in g.run l.world.nodes l.world.boxes)
