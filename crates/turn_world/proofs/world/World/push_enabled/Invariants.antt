-- All speak of one run.
use Rattle.turn_world.proofs.world.World.push_enabled.Given as goal

abbrev pub ghost-is_enabled : goal.ghost-is_enabled
ghost-is_enabled g a = g.run
