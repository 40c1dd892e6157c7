use Rattle.rank_scripts.specs.Worlds.{can}
use Rattle.turn_model.specs.Runs.{scripts}
use Rattle.turn_world.specs.Worlds.{world_in}
use Rattle.turn_world.proofs.EventLemmas.{rank_more_events}
use Rattle.turn_world.proofs.world.World.enabled.Goals as goal

pub loop-rank-preserved : goal.loop-rank-preserved
loop-rank-preserved g c =
    rank_more_events (can (scripts g.run) (world_in g.run c.args.self.now.nodes c.args.self.now.boxes)) g.run.ranks c.loop-rank.rank _ _ c.loop-rank.invariant c.in-Ok.ensures
