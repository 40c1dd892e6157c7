use Rattle.rank_scripts.specs.Worlds.{can}
use Rattle.turn_model.specs.Runs.{scripts}
use Rattle.turn_world.specs.Worlds.{world_in}
use Rattle.turn_world.proofs.EventLemmas.{take_more_event}
use Rattle.turn_world.proofs.world.World.push_events.Goals as goal

pub loop-from-preserved : goal.loop-from-preserved
loop-from-preserved g c =
    take_more_event (can (scripts g.run) (world_in g.run c.args.self.now.nodes c.args.self.now.boxes)) c.args.rank c.loop-from.from _ _ _ c.loop-from.invariant c.in-Ok-push_enabled-2.ensures
