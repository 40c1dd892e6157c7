-- All speak of one run.
use Rattle.std.proofs.Common.{◌≡◌, ◌+◌, ◌≤◌}
use Rattle.rank_scripts.specs.Worlds.{left}
use Rattle.turn_model.specs.Runs.{events, scripts}
use Rattle.turn_world.specs.Worlds.{steps_left, world_in, IsFit}
use Rattle.turn_world.proofs.choices.replay.Given as goal

abbrev pub ghost-done : goal.ghost-done
ghost-done g a = g.run

abbrev pub ghost-next_event : goal.ghost-next_event
ghost-next_event g a = g.run

abbrev pub invariant-events : goal.invariant-events
invariant-events g l = record {
  fit : IsFit g.P.Part.stands g.run l.world.nodes l.world.boxes;
  counted : l.count + left (scripts g.run) (world_in g.run l.world.nodes l.world.boxes) ≡ events g.run;
  spent : l.steps + steps_left g.run l.world.nodes ≤ l.fn.steps + steps_left g.run l.fn.world.nodes;
}

abbrev pub decreases-events : goal.decreases-events
decreases-events g l = left (scripts g.run) (world_in g.run l.world.nodes l.world.boxes)
