-- All speak of one run.
use Rattle.std.proofs.Common.{◌≡◌, ◌++◌, ◌∷◌, map, filter}
use Rattle.std.specs.List.{range_with_len}
use Rattle.rank_scripts.specs.Worlds.{Works, Posts, Takes, can}
use Rattle.turn_model.specs.Runs.{scripts}
use Rattle.turn_world.specs.Worlds.{world_in, event_of}
use Rattle.turn_world.proofs.world.World.push_events.Given as goal

abbrev pub ghost-push_enabled : goal.ghost-push_enabled
ghost-push_enabled g a = g.run

abbrev pub invariant-loop-from : goal.invariant-loop-from
invariant-loop-from g l =
    map event_of l.events ≡ map event_of l.fn.events ++ filter (can (scripts g.run) (world_in g.run l.self.nodes l.self.boxes)) (Works l.rank ∷ Posts l.rank ∷ map (Takes l.rank) (range_with_len 0 l.from))
