-- All speak of one run.
use Rattle.std.proofs.Common.{◌≡◌, map, filter}
use Rattle.std.specs.List.{flat_map, range_with_len}
use Rattle.rank_scripts.specs.Worlds.{can}
use Rattle.turn_model.specs.Runs.{scripts}
use Rattle.turn_world.specs.Worlds.{world_in, event_of, events_of}
use Rattle.turn_world.proofs.world.World.enabled.Given as goal

abbrev pub ghost-push_events : goal.ghost-push_events
ghost-push_events g a = g.run

abbrev pub invariant-loop-rank : goal.invariant-loop-rank
invariant-loop-rank g l = map event_of l.events ≡ filter (can (scripts g.run) (world_in g.run l.self.nodes l.self.boxes)) (flat_map (events_of g.run.ranks) (range_with_len 0 l.rank))
